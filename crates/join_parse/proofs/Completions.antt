-- What begins is completed to a sentence.
use Rattle.std.proofs.Common.{cond, eqb, ◌<◌, inl, inr, ◌≡◌, ℕ, ◌+◌, ◌≤◌, Bool, true, false, List}
use Rattle.std.proofs.Common.{[], ◌∷◌, ◌++◌, length, refl, sym, ap, ◌∙◌, arith, ◌&&◌}
use Rattle.join_lex.specs.declared.token.Key.TheVariants as key
use Rattle.join_lex.specs.declared.token.Sign.TheVariants as sign
use Rattle.join_parse.specs.declared.word.Word.{Word}
use Rattle.join_parse.specs.declared.word.Arg.{Arg}
use Rattle.join_parse.specs.declared.word.Arg.TheVariants as arg
use Rattle.join_lex.specs.Versions.{version_word}
use Rattle.std.proofs.lemmas.Bool.Decides.{nat_tests}
use Rattle.join_parse.specs.declared.word.PatTree.{PatTree}
use Rattle.join_parse.specs.declared.word.SeenTree.{SeenTree}
use Rattle.join_parse.specs.declared.tree.PlaceTree.{PlaceTree}
use Rattle.join_parse.specs.Terminals.{Terminal, a_name, a_number, a_site, a_key, a_sign, named}
use Rattle.join_parse.specs.Terminals.{argument}
use Rattle.join_parse.specs.Source.{Process, Zero, Msg, Go, Fail, Halt, Add, Same, Group, Def}
use Rattle.join_parse.specs.Source.{Processes, none, one_more, Definition, Rule, Place, Definitions}
use Rattle.join_parse.specs.Source.{no_definition, and_also, processes, definitions}
use Rattle.join_parse.specs.Grammar.{TreeOfText, Places, is_second, unplaced, unplaced_name}
use Rattle.join_parse.specs.Grammar.{opening, more_args, arguments, IsArgument, AreArguments}
use Rattle.join_parse.specs.Grammar.{more_names, names, more_patterns, of_process, of_processes}
use Rattle.join_parse.specs.Grammar.{more_processes, of_definition, of_definitions}
use Rattle.join_parse.specs.Grammar.{more_definitions, of_declarations, of_sites, sentence}
use Rattle.join_parse.specs.Grammar.{IsNotEmpty, AreShort, IsSimple, IsProcess, AreProcesses}
use Rattle.join_parse.specs.Grammar.{AreMore, IsDefinition, AreDefinitions, AreDeclarations}
use Rattle.join_parse.specs.Grammar.{AreSites, IsGrammatical}
use Rattle.join_parse.specs.Begins.{start, Symbol, AName, AVersion, ATwo, ANumber, AnArg, Args}
use Rattle.join_parse.specs.Begins.{MoreArgs, AZero, ACount, ASite, AKey, ASign, CloseGroup}
use Rattle.join_parse.specs.Begins.{CloseSquare, EndDef, Program, Sites, Body, Defs, MoreDefs}
use Rattle.join_parse.specs.Begins.{DefRest, MorePatterns, Names, MoreNames, AProc, MoreProcs}
use Rattle.join_parse.specs.Begins.{Alternative, observed, first_site, last_site, next_site, body}
use Rattle.join_parse.specs.Begins.{void, first_definition, last_definition, next_definition, rule}
use Rattle.join_parse.specs.Begins.{place, last_pattern, next_pattern, no_name, first_name}
use Rattle.join_parse.specs.Begins.{last_name, next_name, word_arg, number_arg, no_arg, first_arg}
use Rattle.join_parse.specs.Begins.{last_arg, next_arg, add, same, zero, message, go, fail, halt}
use Rattle.join_parse.specs.Begins.{group, def_in, last_process, next_process, end_def, StandsFor}
use Rattle.join_parse.specs.Begins.{name_stands, version_stands, two_stands, number_stands}
use Rattle.join_parse.specs.Begins.{zero_stands, count_stands, site_stands, key_stands, sign_stands}
use Rattle.join_parse.specs.Begins.{group_stands, square_stands, Leads, ends, takes, opens}
use Rattle.join_parse.specs.Begins.{completed, completion}
use Rattle.join_parse.specs.inside.Automaton.{may_pass, may_end}

-- Where the tokens stand whose places a tree doesn't keep.
abbrev pub IsAt : Places → Terminal → ℕ → Type 0
IsAt at (a_name text from) behind = from ≡ at behind
IsAt at (a_number n from) behind = from ≡ at behind
IsAt at (a_site from) behind = Unit {0}
IsAt at (a_key k) behind = Unit {0}
IsAt at (a_sign s) behind = Unit {0}

abbrev pub AreAt : Places → List Terminal → Type 0
AreAt at [] = Unit {0}
AreAt at (t ∷ ts) = IsAt at t (length ts) × AreAt at ts

abbrev place_of : Terminal → ℕ
place_of (a_name text from) = from
place_of (a_number n from) = from
place_of (a_site from) = from
place_of (a_key k) = 0
place_of (a_sign s) = 0

-- the place of the terminal that has so many behind it
abbrev pub where_behind : List Terminal → Places
where_behind [] behind = 0
where_behind (t ∷ ts) behind = cond (eqb behind (length ts)) (place_of t) (where_behind ts behind)

is-at : (t : Terminal) (ts : List Terminal) → IsAt (where_behind (t ∷ ts)) t (length ts)
is-at (a_name text from) ts =
    let e : eqb (length ts) (length ts) ≡ true = grind (arith, nat_tests) in
    rw e refl
is-at (a_number n from) ts =
    let e : eqb (length ts) (length ts) ≡ true = grind (arith, nat_tests) in
    rw e refl
is-at (a_site from) ts = tt
is-at (a_key k) ts = tt
is-at (a_sign s) ts = tt

still-at : (at at' : Places) (ts : List Terminal) (m : ℕ) → length ts ≤ m
    → ((n : ℕ) → n < m → at n ≡ at' n) → AreAt at ts → AreAt at' ts
still-at at at' [] m l agree a = tt
still-at at at' (t ∷ ts) m l agree a =
    (one t a.0, still-at at at' ts m (omega (arith, l)) agree a.1)
  where
    one : (t : Terminal) → IsAt at t (length ts) → IsAt at' t (length ts)
    one (a_name text from) e = e ∙ agree (length ts) (omega (arith, l))
    one (a_number n from) e = e ∙ agree (length ts) (omega (arith, l))
    one (a_site from) e = tt
    one (a_key k) e = tt
    one (a_sign s) e = tt

pub are-at : (ts : List Terminal) → AreAt (where_behind ts) ts
are-at [] = tt
are-at (t ∷ ts) = (
  is-at t ts,
  still-at (where_behind ts) (where_behind (t ∷ ts)) ts (length ts) (omega arith)
      (λ n l. let e : eqb n (length ts) ≡ false = grind (arith, nat_tests) in rw e refl)
      (are-at ts),
)

-- the members of mutual lists
abbrev members : Processes → List Process
members none = []
members (one_more p ps) = p ∷ members ps

abbrev clauses : Definitions → List Definition
clauses no_definition = []
clauses (and_also d ds) = d ∷ clauses ds

processes-members : (ps : Processes) → processes (members ps) ≡ ps
processes-members none = refl
processes-members (one_more p ps) = ap (one_more p) (processes-members ps)

definitions-clauses : (ds : Definitions) → definitions (clauses ds) ≡ ds
definitions-clauses no_definition = refl
definitions-clauses (and_also d ds) = ap (and_also d) (definitions-clauses ds)

-- one way to go on, for each symbol
some_name : Word
some_name = record { text = 120 ∷ []; place = 0 }

module _ (second : Bool) (at : Places) where
  -- the terminals of a site's or place's body, followed by the rest
  abbrev pub bracketed : Definitions → Processes → List Terminal → List Terminal
  bracketed ds ps rest = a_sign sign.SquareLeft
      ∷ of_definitions at ds
      (a_sign sign.Colon ∷ of_processes at ps (a_sign sign.SquareRight ∷ rest))

  -- The terminals are what the symbol expects, and the rest.
  abbrev pub Of : Symbol → List Terminal → List Terminal → Type 0
  Of AName ts rest = (w : Word) × (ts ≡ named w ∷ rest)
  Of AVersion ts rest = ts ≡ unplaced_name at version_word rest
  Of ATwo ts rest = ts ≡ unplaced at 2 rest
  Of AZero ts rest = ts ≡ unplaced at 0 rest
  Of ACount ts rest = (n : ℕ) × (n ≤ 255) × (ts ≡ unplaced at n rest)
  Of ANumber ts rest = (n : ℕ) × (place : ℕ) × (ts ≡ a_number n place ∷ rest)
  Of AnArg ts rest = (v : Arg) × IsArgument second v × (ts ≡ argument v ∷ rest)
  Of Args ts rest =
      (vs : List Arg) × (length vs ≤ 255) × AreArguments second vs × (ts ≡ arguments vs rest)
  Of (MoreArgs n) ts rest = (vs : List Arg) × (n ≤ 255 → n + length vs ≤ 255)
      × AreArguments second vs × (ts ≡ more_args vs rest)
  Of ASite ts rest = (place : ℕ) × (ts ≡ a_site place ∷ rest)
  Of (AKey k) ts rest = ts ≡ a_key k ∷ rest
  Of (ASign s) ts rest = ts ≡ a_sign s ∷ rest
  Of CloseGroup ts rest = ts ≡ a_sign sign.ParenRight ∷ rest
  Of CloseSquare ts rest = ts ≡ a_sign sign.SquareRight ∷ rest
  Of EndDef ts rest = ts ≡ rest
  Of Program ts rest =
      (seen : List SeenTree) × (sites : List PlaceTree) × AreDeclarations seen × IsNotEmpty sites
      × AreSites second sites × (ts ≡ of_declarations at seen (of_sites at sites rest))
  Of Sites ts rest =
      (sites : List PlaceTree) × AreSites second sites × (ts ≡ of_sites at sites rest)
  Of (Body within) ts rest = (ds : Definitions) × (ps : Processes) × AreDefinitions second within ds
      × AreProcesses second ps × (ts ≡ bracketed ds ps rest)
  Of (Defs within) ts rest =
      (ds : Definitions) × AreDefinitions second within ds × (ts ≡ of_definitions at ds rest)
  Of (MoreDefs within) ts rest =
      (ds : Definitions) × AreDefinitions second within ds × (ts ≡ more_definitions at ds rest)
  Of (DefRest within) ts rest = (name : Word)
      → (d : Definition) × IsDefinition second within d
      × (named name ∷ ts ≡ of_definition at d rest)
  Of MorePatterns ts rest = (ps : List PatTree) × AreShort ps × (ts ≡ more_patterns ps rest)
  Of Names ts rest = (ws : List Word) × (length ws ≤ 255) × (ts ≡ names ws rest)
  Of (MoreNames n) ts rest =
      (ws : List Word) × (n ≤ 255 → n + length ws ≤ 255) × (ts ≡ more_names ws rest)
  Of AProc ts rest = (ps : Processes) × AreProcesses second ps × (ts ≡ of_processes at ps rest)
  Of MoreProcs ts rest =
      (ps : Processes) × AreMore second Zero ps × (ts ≡ more_processes at ps rest)

  -- The terminals are all that is expected.
  abbrev pub Fills : List Symbol → List Terminal → Type 0
  Fills [] ts = ts ≡ []
  Fills (s ∷ stack) ts = (rest : List Terminal) × Of s ts rest × Fills stack rest

  -- one more site before others
  site-first : (opener : ℕ) (name : Word) (ts mid rest : List Terminal) → Of (Body false) ts mid
      → Of Sites mid rest
      → (s : PlaceTree) × (sites : List PlaceTree) × AreSites second (s ∷ sites)
      × (a_site opener ∷ named name ∷ ts ≡ of_sites at (s ∷ sites) rest)
  site-first opener name ts mid rest (ds, ps, a, b, e) (sites, c, f) =
      let s : PlaceTree =
      record { opener = opener; name = name; defs = clauses ds; body = members ps } in
      let d : definitions (clauses ds) ≡ ds = definitions-clauses ds in
      let p : processes (members ps) ≡ ps = processes-members ps in (
        s,
        sites,
        (rw d a, rw p b, c),
        ap (λ r. a_site opener ∷ named name ∷ r) (e ∙ ap (bracketed ds ps) f
            ∙ sym (ap (λ es. bracketed es (processes (members ps)) (of_sites at sites rest)) d
            ∙ ap (λ qs. bracketed ds qs (of_sites at sites rest)) p)),
      )

  -- a process, and those after it
  front : (ts rest : List Terminal) (p : Process) → IsSimple p → IsProcess second p
      → Of MoreProcs ts rest → Of AProc (of_process at p ts) rest
  front ts rest p s i (ps, a, e) = (one_more p ps, (i, after p ps s a), ap (of_process at p) e)
    where
      after : (p : Process) (ps : Processes) → IsSimple p → AreMore second Zero ps
          → AreMore second p ps
      after p none s a = tt
      after p (one_more q qs) s a = (s, a.1, a.2)

  stands-of : (s : Symbol) (t : Terminal) (rest : List Terminal) → StandsFor s t
      → IsAt at t (length rest) → Of s (t ∷ rest) rest
  stands-of s t rest (name_stands text from) f = (record { text = text; place = from }, refl)
  stands-of s t rest (version_stands from) f = ap (λ n. a_name version_word n ∷ rest) f
  stands-of s t rest (two_stands from) f = ap (λ n. a_number 2 n ∷ rest) f
  stands-of s t rest (zero_stands from) f = ap (λ n. a_number 0 n ∷ rest) f
  stands-of s t rest (count_stands n from l) f = (n, l, ap (λ m. a_number n m ∷ rest) f)
  stands-of s t rest (number_stands n from) f = (n, from, refl)
  stands-of s t rest (site_stands from) f = (from, refl)
  stands-of s t rest (key_stands k) f = refl
  stands-of s t rest (sign_stands k) f = refl
  stands-of s t rest group_stands f = refl
  stands-of s t rest square_stands f = refl

  -- what fills an alternative and the rest fills the symbol and the rest
  pub alternative-fills : (s : Symbol) (alternative stack : List Symbol) (ts : List Terminal)
      → Alternative second s alternative → Fills (alternative ++ stack) ts → Fills (s ∷ stack) ts
  alternative-fills s alternative stack ts observed (
    _,
    k,
    (_, name, (_, slash, (_, count, (_, semicolon, (rest, (seen, sites, a, b, c, e), f))))),
  ) =
      let d : SeenTree = record { name = name.0; count = count.0 } in (
        rest,
        (
          d ∷ seen,
          sites,
          (count.1, a),
          b,
          c,
          k
              ∙ ap (λ r. a_key key.Observe ∷ r) (name.1
              ∙ ap (λ r. named name.0 ∷ r) (slash
              ∙ ap (λ r. a_sign sign.Slash ∷ r) (count.2
              ∙ ap (unplaced at count.0) (semicolon ∙ ap (λ r. a_sign sign.Semicolon ∷ r) e)))),
        ),
        f,
      )
  alternative-fills s alternative stack ts first_site
      (_, opener, (_, name, (_, b, (rest, more, f)))) =
      let o = site-first opener.0 name.0 _ _ rest b more in
      (rest, ([], o.0 ∷ o.1, tt, tt, o.2, opener.1 ∙ ap (λ r. a_site opener.0 ∷ r) name.1 ∙ o.3), f)
  alternative-fills s alternative stack ts last_site f = (ts, ([], tt, refl), f)
  alternative-fills s alternative stack ts next_site
      (_, opener, (_, name, (_, b, (rest, more, f)))) =
      let o = site-first opener.0 name.0 _ _ rest b more in
      (rest, (o.0 ∷ o.1, o.2, opener.1 ∙ ap (λ r. a_site opener.0 ∷ r) name.1 ∙ o.3), f)
  alternative-fills s alternative stack ts (body within)
      (_, bracket, (_, ds, (_, colon, (_, ps, (rest, close, f))))) = (
        rest,
        (
          ds.0,
          ps.0,
          ds.1,
          ps.1,
          bracket
              ∙ ap (λ r. a_sign sign.SquareLeft ∷ r) (ds.2
              ∙ ap (of_definitions at ds.0)
              (colon ∙ ap (λ r. a_sign sign.Colon ∷ r) (ps.2 ∙ ap (of_processes at ps.0) close))),
        ),
        f,
      )
  alternative-fills s alternative stack ts (void within) (rest, k, f) =
      (rest, (no_definition, tt, k), f)
  alternative-fills s alternative stack ts (first_definition within)
      (_, name, (_, rest_of, (rest, more, f))) =
      let d = rest_of name.0 in (
        rest,
        (and_also d.0 more.0, (d.1, more.1), name.1 ∙ d.2 ∙ ap (of_definition at d.0) more.2),
        f,
      )
  alternative-fills s alternative stack ts (last_definition within) f =
      (ts, (no_definition, tt, refl), f)
  alternative-fills s alternative stack ts (next_definition within)
      (_, k, (_, name, (_, rest_of, (rest, more, f)))) =
      let d = rest_of name.0 in (
        rest,
        (
          and_also d.0 more.0,
          (d.1, more.1),
          k ∙ ap (λ r. a_key key.And ∷ r) (name.1 ∙ d.2 ∙ ap (of_definition at d.0) more.2),
        ),
        f,
      )
  alternative-fills s alternative stack ts (rule within)
      (_, paren, (_, ws, (_, pats, (rest, ps, f)))) = (
        rest,
        (λ name. (
          Rule (record { on = name; params = ws.0 } ∷ pats.0) ps.0,
          (tt, (ws.1, pats.1), ps.1),
          ap (λ r. named name ∷ r) (paren
              ∙ ap (λ r. a_sign sign.ParenLeft ∷ r)
              (ws.2 ∙ ap (names ws.0) (pats.2 ∙ ap (more_patterns pats.0) ps.2))),
        )),
        f,
      )
  alternative-fills s alternative stack ts place (rest, b, f) = (
    rest,
    (λ name. (Place name.place name b.0 b.1, (refl, b.2, b.3), ap (λ r. named name ∷ r) b.4)),
    f,
  )
  alternative-fills s alternative stack ts last_pattern (rest, k, f) = (rest, ([], tt, k), f)
  alternative-fills s alternative stack ts next_pattern
      (_, bar, (_, name, (_, paren, (_, ws, (rest, pats, f))))) = (
        rest,
        (
          record { on = name.0; params = ws.0 } ∷ pats.0,
          (ws.1, pats.1),
          bar
              ∙ ap (λ r. a_sign sign.Bar ∷ r) (name.1
              ∙ ap (λ r. named name.0 ∷ r)
              (paren ∙ ap (λ r. a_sign sign.ParenLeft ∷ r) (ws.2 ∙ ap (names ws.0) pats.2))),
        ),
        f,
      )
  alternative-fills s alternative stack ts no_name (rest, k, f) = (rest, ([], omega arith, k), f)
  alternative-fills s alternative stack ts first_name (_, name, (rest, ws, f)) =
      let few = ws.1 (omega arith) in
      (rest, (name.0 ∷ ws.0, omega arith, name.1 ∙ ap (λ r. named name.0 ∷ r) ws.2), f)
  alternative-fills s alternative stack ts (last_name n) (rest, k, f) =
      (rest, ([], (λ l. omega arith), k), f)
  alternative-fills s alternative stack ts (next_name n l) (_, comma, (_, name, (rest, ws, f))) =
      let few = ws.1 (omega arith) in (
        rest,
        (
          name.0 ∷ ws.0,
          (λ _. omega arith),
          comma ∙ ap (λ r. a_sign sign.Comma ∷ r) (name.1 ∙ ap (λ r. named name.0 ∷ r) ws.2),
        ),
        f,
      )
  alternative-fills s alternative stack ts word_arg (rest, name, f) =
      (rest, (arg.Word name.0, tt, name.1), f)
  alternative-fills s alternative stack ts (number_arg i) (rest, n, f) =
      (rest, (arg.Num n.0 n.1, i, n.2), f)
  alternative-fills s alternative stack ts no_arg (rest, k, f) = (rest, ([], omega arith, tt, k), f)
  alternative-fills s alternative stack ts first_arg (_, v, (rest, vs, f)) =
      let few = vs.1 (omega arith) in
      (rest, (v.0 ∷ vs.0, omega arith, (v.1, vs.2), v.2 ∙ ap (λ r. argument v.0 ∷ r) vs.3), f)
  alternative-fills s alternative stack ts (last_arg n) (rest, k, f) =
      (rest, ([], (λ l. omega arith), tt, k), f)
  alternative-fills s alternative stack ts (next_arg n l) (_, comma, (_, v, (rest, vs, f))) =
      let few = vs.1 (omega arith) in (
        rest,
        (
          v.0 ∷ vs.0,
          (λ _. omega arith),
          (v.1, vs.2),
          comma ∙ ap (λ r. a_sign sign.Comma ∷ r) (v.2 ∙ ap (λ r. argument v.0 ∷ r) vs.3),
        ),
        f,
      )
  alternative-fills s alternative stack ts zero (ms, z, (rest, more, f)) =
      let o = front ms rest Zero tt tt more in
      (rest, (o.0, o.1, z ∙ o.2), f)
  alternative-fills s alternative stack ts message
      (_, name, (_, paren, (ms, ws, (rest, more, f)))) =
      let o = front ms rest (Msg name.0 ws.0) tt (ws.1, ws.2) more in (
        rest,
        (
          o.0,
          o.1,
          name.1 ∙ ap (λ r. named name.0 ∷ r) (paren ∙ ap (λ r. a_sign sign.ParenLeft ∷ r) ws.3)
              ∙ o.2,
        ),
        f,
      )
  alternative-fills s alternative stack ts go
      (_, k, (_, paren, (_, one, (_, comma, (_, other, (ms, close, (rest, more, f))))))) =
      let o = front ms rest (Go one.0 other.0) tt tt more in (
        rest,
        (
          o.0,
          o.1,
          k
              ∙ ap (λ r. a_key key.Go ∷ r) (paren
              ∙ ap (λ r. a_sign sign.ParenLeft ∷ r) (one.1
              ∙ ap (λ r. named one.0 ∷ r) (comma
              ∙ ap (λ r. a_sign sign.Comma ∷ r) (other.1 ∙ ap (λ r. named other.0 ∷ r) close))))
              ∙ o.2,
        ),
        f,
      )
  alternative-fills s alternative stack ts fail
      (_, k, (_, paren, (_, one, (_, comma, (_, other, (ms, close, (rest, more, f))))))) =
      let o = front ms rest (Fail one.0 other.0) tt tt more in (
        rest,
        (
          o.0,
          o.1,
          k
              ∙ ap (λ r. a_key key.Fail ∷ r) (paren
              ∙ ap (λ r. a_sign sign.ParenLeft ∷ r) (one.1
              ∙ ap (λ r. named one.0 ∷ r) (comma
              ∙ ap (λ r. a_sign sign.Comma ∷ r) (other.1 ∙ ap (λ r. named other.0 ∷ r) close))))
              ∙ o.2,
        ),
        f,
      )
  alternative-fills s alternative stack ts halt (_, k, (_, paren, (ms, close, (rest, more, f)))) =
      let o = front ms rest Halt tt tt more in (
        rest,
        (
          o.0,
          o.1,
          k ∙ ap (λ r. a_key key.Halt ∷ r) (paren ∙ ap (λ r. a_sign sign.ParenLeft ∷ r) close)
              ∙ o.2,
        ),
        f,
      )
  alternative-fills s alternative stack ts (add i) (
    _,
    k,
    (_, paren, (_, l, (_, comma, (_, m, (_, comma', (_, cont, (ms, close, (rest, more, f)))))))),
  ) =
      let o = front ms rest (Add l.0 m.0 cont.0) tt i more in (
        rest,
        (
          o.0,
          o.1,
          k
              ∙ ap (λ r. a_key key.Add ∷ r) (paren
              ∙ ap (λ r. a_sign sign.ParenLeft ∷ r) (l.2
              ∙ ap (λ r. argument l.0 ∷ r) (comma
              ∙ ap (λ r. a_sign sign.Comma ∷ r) (m.2
              ∙ ap (λ r. argument m.0 ∷ r) (comma'
              ∙ ap (λ r. a_sign sign.Comma ∷ r) (cont.1 ∙ ap (λ r. named cont.0 ∷ r) close))))))
              ∙ o.2,
        ),
        f,
      )
  alternative-fills s alternative stack ts (same i) (
    _,
    k,
    (
      _,
      paren,
      (
        _,
        l,
        (
          _,
          comma,
          (_, m, (_, comma', (_, one, (_, comma'', (_, other, (ms, close, (rest, more, f))))))),
        ),
      ),
    ),
  ) =
      let o = front ms rest (Same l.0 m.0 one.0 other.0) tt i more in (
        rest,
        (
          o.0,
          o.1,
          k
              ∙ ap (λ r. a_key key.Same ∷ r) (paren
              ∙ ap (λ r. a_sign sign.ParenLeft ∷ r) (l.2
              ∙ ap (λ r. argument l.0 ∷ r) (comma
              ∙ ap (λ r. a_sign sign.Comma ∷ r) (m.2
              ∙ ap (λ r. argument m.0 ∷ r) (comma'
              ∙ ap (λ r. a_sign sign.Comma ∷ r) (one.1
              ∙ ap (λ r. named one.0 ∷ r) (comma''
              ∙ ap (λ r. a_sign sign.Comma ∷ r) (other.1 ∙ ap (λ r. named other.0 ∷ r) close))))))))
              ∙ o.2,
        ),
        f,
      )
  alternative-fills s alternative stack ts group
      (_, bracket, (_, inner, (ms, close, (rest, more, f)))) =
      let o = front ms rest (Group inner.0) tt inner.1 more in (
        rest,
        (
          o.0,
          o.1,
          bracket
              ∙ ap (λ r. a_sign sign.ParenLeft ∷ r) (inner.2 ∙ ap (of_processes at inner.0) close)
              ∙ o.2,
        ),
        f,
      )
  alternative-fills s alternative stack ts def_in
      (_, k, (_, ds, (_, inside, (_, ps, (rest, closed, f))))) = (
        rest,
        (
          one_more (Def ds.0 ps.0) none,
          ((ds.1, ps.1), tt),
          k
              ∙ ap (λ r. a_key key.Def ∷ r) (ds.2
              ∙ ap (of_definitions at ds.0)
              (inside ∙ ap (λ r. a_key key.Inside ∷ r) (ps.2 ∙ ap (of_processes at ps.0) closed))),
        ),
        f,
      )
  alternative-fills s alternative stack ts last_process f = (ts, (none, tt, refl), f)
  alternative-fills s alternative stack ts next_process (ms, bar, (rest, more, f)) =
      after ms rest bar more f
    where
      after : (ms rest : List Terminal) → ts ≡ a_sign sign.Bar ∷ ms → Of AProc ms rest
          → Fills stack rest → Fills (MoreProcs ∷ stack) ts
      after ms rest bar (none, a, e) f = absurd a
      after ms rest bar (one_more p ps, a, e) f =
          (rest, (one_more p ps, (tt, a.0, a.1), bar ∙ ap (λ r. a_sign sign.Bar ∷ r) e), f)
  alternative-fills s alternative stack ts end_def f = (ts, refl, f)

  pub leads-fills :
      (stack : List Symbol) (ts : List Terminal) (after : List Symbol) (more : List Terminal)
      → Leads second stack ts after → AreAt at (ts ++ more) → Fills after more
      → Fills stack (ts ++ more)
  leads-fills stack ts after more (ends s) a f = f
  leads-fills stack ts after more (takes s t below rest _ stands leads) a f = (
    rest ++ more,
    stands-of s t (rest ++ more) stands a.0,
    leads-fills below rest after more leads a.1 f,
  )
  leads-fills stack ts after more (opens s alternative below rest _ is leads) a f =
      alternative-fills s alternative below (rest ++ more) is
      (leads-fills (alternative ++ below) rest after more leads a f)

  completed-of : (s : Symbol) (rest : List Terminal) → AreAt at (completed s rest)
      → Of s (completed s rest) rest
  unfolding some_name
  completed-of AName rest a = (some_name, refl)
  completed-of AVersion rest a = ap (λ n. a_name version_word n ∷ rest) a.0
  completed-of ATwo rest a = ap (λ n. a_number 2 n ∷ rest) a.0
  completed-of AZero rest a = ap (λ n. a_number 0 n ∷ rest) a.0
  completed-of ACount rest a = (0, omega arith, ap (λ n. a_number 0 n ∷ rest) a.0)
  completed-of ASite rest a = (0, refl)
  completed-of (AKey k) rest a = refl
  completed-of (ASign s) rest a = refl
  completed-of CloseGroup rest a = refl
  completed-of CloseSquare rest a = refl
  completed-of EndDef rest a = refl
  completed-of Program rest a = (
    [],
    record { opener = 0; name = some_name; defs = []; body = Zero ∷ [] } ∷ [],
    tt,
    tt,
    (tt, (tt, tt), tt),
    ap (λ n. a_site 0 ∷ named some_name ∷ a_sign sign.SquareLeft ∷ a_key key.Void
        ∷ a_sign sign.Colon ∷ a_number 0 n ∷ a_sign sign.SquareRight ∷ rest) a.1.1.1.1.1.0,
  )
  completed-of Sites rest a = ([], tt, refl)
  completed-of (Body within) rest a = (
    no_definition,
    one_more Zero none,
    tt,
    (tt, tt),
    ap (λ n. a_sign sign.SquareLeft ∷ a_key key.Void ∷ a_sign sign.Colon ∷ a_number 0 n
        ∷ a_sign sign.SquareRight ∷ rest) a.1.1.1.0,
  )
  completed-of (Defs within) rest a = (no_definition, tt, refl)
  completed-of (MoreDefs within) rest a = (no_definition, tt, refl)
  completed-of (DefRest within) rest a = λ name. (
    Rule (record { on = name; params = [] } ∷ []) (one_more Zero none),
    (tt, (omega arith, tt), (tt, tt)),
    ap (λ n. named name ∷ a_sign sign.ParenLeft ∷ a_sign sign.ParenRight ∷ a_sign sign.Arrow
        ∷ a_number 0 n ∷ rest) a.1.1.1.0,
  )
  completed-of MorePatterns rest a = ([], tt, refl)
  completed-of Names rest a = ([], omega arith, refl)
  completed-of (MoreNames n) rest a = ([], (λ l. omega arith), refl)
  completed-of ANumber rest a = (0, 0, refl)
  completed-of AnArg rest a = (arg.Word some_name, tt, refl)
  completed-of Args rest a = ([], omega arith, tt, refl)
  completed-of (MoreArgs n) rest a = ([], (λ l. omega arith), tt, refl)
  completed-of AProc rest a = (one_more Zero none, (tt, tt), ap (λ n. a_number 0 n ∷ rest) a.0)
  completed-of MoreProcs rest a = (none, tt, refl)

  -- what is behind a symbol's completion
  behind : (s : Symbol) (rest : List Terminal) → AreAt at (completed s rest) → AreAt at rest
  behind AName rest a = a.1
  behind AVersion rest a = a.1
  behind ATwo rest a = a.1
  behind AZero rest a = a.1
  behind ACount rest a = a.1
  behind ASite rest a = a.1
  behind (AKey k) rest a = a.1
  behind (ASign s) rest a = a.1
  behind CloseGroup rest a = a.1
  behind CloseSquare rest a = a.1
  behind EndDef rest a = a
  behind Program rest a = a.1.1.1.1.1.1.1
  behind Sites rest a = a
  behind (Body within) rest a = a.1.1.1.1.1
  behind (Defs within) rest a = a.1
  behind (MoreDefs within) rest a = a
  behind (DefRest within) rest a = a.1.1.1.1
  behind MorePatterns rest a = a.1
  behind Names rest a = a.1
  behind (MoreNames n) rest a = a.1
  behind ANumber rest a = a.1
  behind AnArg rest a = a.1
  behind Args rest a = a.1
  behind (MoreArgs n) rest a = a.1
  behind AProc rest a = a.1
  behind MoreProcs rest a = a

  pub completion-fills : (stack : List Symbol) → AreAt at (completion stack)
      → Fills stack (completion stack)
  completion-fills [] a = refl
  completion-fills (s ∷ stack) a = (
    completion stack,
    completed-of s (completion stack) a,
    completion-fills stack (behind s (completion stack) a),
  )

  -- where the text may end, nothing more fills what is expected
  pub may_end-fills : (stack : List Symbol) → may_end stack ≡ true → Fills stack []
  may_end-fills [] e = refl
  may_end-fills (s ∷ stack) e =
      let b = both (may_pass s) (may_end stack) e in
      ([], nothing s b.0, may_end-fills stack b.1)
    where
      both : (a b : Bool) → (a && b) ≡ true → (a ≡ true) × (b ≡ true)
      both true b e = (refl, e)
      both false b e = cc

      nothing : (s : Symbol) → may_pass s ≡ true → Of s [] []
      nothing EndDef e = refl
      nothing Sites e = ([], tt, refl)
      nothing (MoreDefs within) e = (no_definition, tt, refl)
      nothing MoreProcs e = (none, tt, refl)
      nothing s e = cc

-- what fills the whole is a sentence
pub fills-sentence : (second : Bool) (at : Places) (ts : List Terminal)
    → Fills second at (start second) ts
    → (t : TreeOfText) × (is_second t.version ≡ second) × IsGrammatical t × (sentence at t ≡ ts)
fills-sentence false at ts (rest, (seen, sites, a, b, c, e), end) = (
  record { version = 1; seen = seen; sites = sites },
  refl,
  record { version = inl refl; seen = a; some_site = b; sites = c },
  sym (e ∙ ap (λ r. of_declarations at seen (of_sites at sites r)) end),
)
fills-sentence true at ts
    (_, v, (_, two, (_, semicolon, (rest, (seen, sites, a, b, c, e), end)))) = (
      record { version = 2; seen = seen; sites = sites },
      refl,
      record { version = inr refl; seen = a; some_site = b; sites = c },
      sym (v
          ∙ ap (unplaced_name at version_word) (two
          ∙ ap (unplaced at 2) (semicolon
          ∙ ap (λ r. a_sign sign.Semicolon ∷ r)
          (e ∙ ap (λ r. of_declarations at seen (of_sites at sites r)) end)))),
    )

-- What leads to expectations is completed to a sentence.
pub leads-sentence : (second : Bool) (ts : List Terminal) (after : List Symbol)
    → Leads second (start second) ts after
    → (t : TreeOfText) × (at : Places) × (is_second t.version ≡ second) × IsGrammatical t
    × (sentence at t ≡ ts ++ completion after)
leads-sentence second ts after l =
    let whole = ts ++ completion after in
    let at = where_behind whole in
    let a = are-at whole in
    let s =
    fills-sentence second at whole (leads-fills second at (start second) ts after (completion after)
    l a (completion-fills second at after (end-at at ts (completion after) a))) in
    (s.0, at, s.1, s.2, s.3)
  where
    end-at : (at : Places) (ts more : List Terminal) → AreAt at (ts ++ more) → AreAt at more
    end-at at [] more a = a
    end-at at (t ∷ ts) more a = end-at at ts more a.1
