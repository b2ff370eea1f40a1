-- In the code of a program, guards are numbered by level, and within a level by order.
use Rattle.std.proofs.Common.{◌≡◌, ℕ, zero, suc, ◌+◌, List, [], ◌∷◌, ◌++◌, length, take, Some, None}
use Rattle.std.proofs.Common.{refl, sym, ap, ◌∙◌, subst, arith, length-append}
use Rattle.std.specs.Prelude.{slice_get}
use Rattle.chem_model.specs.declared.program.SiteTerm.{SiteTerm}
use Rattle.chem_model.specs.Process as term
use Rattle.chem_model.specs.Process.{Process, Msg, Par, Def, Go, Fail, Halt, Processes, none}
use Rattle.chem_model.specs.Process.{one_more, Definition, Rule, Place, Definitions, no_definition}
use Rattle.chem_model.specs.Process.{and_also}
use Rattle.chem_model.specs.ProgramFacts.{ProgramTerms}
use Rattle.chem_model.specs.Binders.{binder_of, params_of}
use Rattle.chem_model.specs.Fill.{Naming}
use Rattle.chem_model.specs.Opening.{site_names}
use Rattle.env_store.specs.declared.code.Level.{Level}
use Rattle.env_store.specs.declared.code.Block.{Block}
use Rattle.env_store.specs.Layout.{rules_in, new_channels, place_order, place_in, order, LevelTerm}
use Rattle.env_store.specs.Layout.{levels_of, levels_of_all, levels_of_defs, levels_of_def}
use Rattle.env_store.specs.Layout.{levels_of_site, levels_of_sites, levels_of_program, all_rules}
use Rattle.env_store.specs.CodeParts.{CodeParts}
use Rattle.guard_compile.specs.declared.write.At.{At}
use Rattle.guard_compile.specs.Written.{join, behind, inside, body_piece, level_piece}
use Rattle.guard_compile.specs.Written.{block_piece, level_of, with_body, write, write_all}
use Rattle.guard_compile.specs.Written.{write_defs, write_def, site_piece, write_sites}
use Rattle.guard_compile.specs.Written.{code_of}
use Rattle.guard_compile.proofs.From.{Holds, holds_left, holds_right}
use Rattle.guard_compile.proofs.WrittenReads.{block_after, level_after, next_is, next_is_defs}
use Rattle.guard_compile.proofs.WrittenReads.{next_is_def, levels_long, levels_long_defs}
use Rattle.guard_compile.proofs.WrittenReads.{levels_long_def, guards_long}
use Rattle.guard_compile.proofs.CodeRead.{has_all, sat, sd, sw, sfront, front_next, defs_next}
use Rattle.guard_compile.proofs.CodeRead.{site_next}

rules_joined : (ts us : List LevelTerm) → all_rules (ts ++ us) ≡ all_rules ts + all_rules us
rules_joined [] us = omega arith
rules_joined (t ∷ ts) us = omega (arith, rules_joined ts us)

module _ (tops : Naming) where
  mutual
    guards_many : (p : Process) (at : At) (y : List ℕ)
        → length (write tops at y p).piece.guards ≡ all_rules (levels_of y p)
    guards_many (Msg x vs) at y = refl
    guards_many (Par ps) at y = guards_many_all ps at y
    guards_many (Def ds p) at y =
        let z = y ++ order ds in
        let bs = new_channels [] ds in
        let at1 = behind (inside at) (rules_in ds) in
        let d = write_defs tops at1 at.block 0 at.level bs z bs ds in
        let w = write tops d.piece.next z p in
        omega (
          arith,
          guards_long tops ds at1 at.block 0 at.level bs z bs,
          guards_many_defs ds at1 at.block 0 at.level bs z bs,
          guards_many p d.piece.next z,
          length-append d.guards (d.piece.guards ++ w.piece.guards),
          length-append d.piece.guards w.piece.guards,
          rules_joined (levels_of_defs z bs ds) (levels_of z p),
        )
    guards_many (Go b k) at y = refl
    guards_many (Fail b k) at y = refl
    guards_many Halt at y = refl

    guards_many_all : (ps : Processes) (at : At) (y : List ℕ)
        → length (write_all tops at y ps).piece.guards ≡ all_rules (levels_of_all y ps)
    guards_many_all none at y = refl
    guards_many_all (one_more p ps) at y =
        let w = write tops at y p in
        let v = write_all tops w.piece.next y ps in
        omega (
          arith,
          guards_many p at y,
          guards_many_all ps w.piece.next y,
          length-append w.piece.guards v.piece.guards,
          rules_joined (levels_of y p) (levels_of_all y ps),
        )

    guards_many_defs : (ds : Definitions) (at : At) (b i n : ℕ) (channels z acc : List ℕ)
        → length (write_defs tops at b i n channels z acc ds).piece.guards
        ≡ all_rules (levels_of_defs z acc ds)
    guards_many_defs no_definition at b i n channels z acc = refl
    guards_many_defs (and_also d ds) at b i n channels z acc =
        let a = write_def tops at b i n channels z acc d in
        let v = write_defs tops a.piece.next b (i + length a.places) n channels z
        (acc ++ place_in acc d) ds in
        omega (
          arith,
          guards_many_def d at b i n channels z acc,
          guards_many_defs ds a.piece.next b (i + length a.places) n channels z
              (acc ++ place_in acc d),
          length-append a.piece.guards v.piece.guards,
          rules_joined (levels_of_def z acc d) (levels_of_defs z (acc ++ place_in acc d) ds),
        )

    guards_many_def : (d : Definition) (at : At) (b i n : ℕ) (channels z acc : List ℕ)
        → length (write_def tops at b i n channels z acc d).piece.guards
        ≡ all_rules (levels_of_def z acc d)
    guards_many_def (Rule ps p) at b i n channels z acc =
        let w = write tops at (z ++ params_of ps) p in
        omega (arith, guards_many p at (z ++ params_of ps), length-append w.piece.guards [])
    guards_many_def (Place x es p) at b i n channels z acc =
        let at1 = behind at (rules_in es) in
        let own = new_channels (acc ++ binder_of x) es in
        let acc' = acc ++ place_order acc x es in
        let d = write_defs tops at1 b 0 at.level own z acc' es in
        let w = write tops d.piece.next z p in
        omega (
          arith,
          guards_long tops es at1 b 0 at.level own z acc',
          guards_many_defs es at1 b 0 at.level own z acc',
          guards_many p d.piece.next z,
          length-append d.guards (d.piece.guards ++ (w.piece.guards ++ [])),
          length-append d.piece.guards (w.piece.guards ++ []),
          length-append w.piece.guards [],
          rules_joined (levels_of_defs z acc' es) (levels_of z p),
        )

  module _ (c : CodeParts) where
    -- the levels from the number n on have their guards from the number g on, one after another
    abbrev pub FirstFrom : ℕ → ℕ → List LevelTerm → Type 0
    FirstFrom n g [] = Unit {0}
    FirstFrom n g (t ∷ ts) = ((v : Level) × (slice_get c.levels n ≡ Some v) × (v.first ≡ g))
        × FirstFrom (n + 1) (g + rules_in t.defs) ts

    first_at : (n m g h : ℕ) (ts : List LevelTerm) → n ≡ m → g ≡ h → FirstFrom n g ts
        → FirstFrom m h ts
    first_at n m g h ts e f = subst (λ (q : ℕ × ℕ). FirstFrom q.0 q.1 ts) (λ i. (e i, f i))

    -- the first guard of a level, by its number
    first_found : (n g : ℕ) (ts : List LevelTerm) → FirstFrom n g ts → (i : ℕ) (t : LevelTerm)
        → slice_get ts i ≡ Some t
        → (v : Level) × (slice_get c.levels (n + i) ≡ Some v)
        × (v.first ≡ g + all_rules (take i ts))
    first_found n g [] h i t e = cc
    first_found n g (u ∷ ts) h zero t e =
        let at : n ≡ n + 0 = omega arith in
        let sum : g ≡ g + 0 = omega arith in
        (h.0.0, ap (slice_get c.levels) (sym at) ∙ h.0.1, h.0.2 ∙ sum)
    first_found n g (u ∷ ts) h (suc i) t e =
        let rest = first_found (n + 1) (g + rules_in u.defs) ts h.1 i t e in
        let at : n + suc i ≡ (n + 1) + i = omega arith in
        (rest.0, ap (slice_get c.levels) at ∙ rest.1, omega (arith, rest.2))

    first_joined : (n g : ℕ) (ts us : List LevelTerm) → FirstFrom n g ts
        → FirstFrom (n + length ts) (g + all_rules ts) us → FirstFrom n g (ts ++ us)
    first_joined n g [] us h k =
        first_at (n + length {A = LevelTerm} []) n (g + 0) g us (omega arith) (omega arith) k
    first_joined n g (t ∷ ts) us h k = (
      h.0,
      first_joined (n + 1) (g + rules_in t.defs) ts us
          h.1 (first_at (n + length (t ∷ ts)) ((n + 1) + length ts) (g + all_rules (t ∷ ts))
          ((g + rules_in t.defs) + all_rules ts) us (omega arith) (omega arith) k),
    )

    mutual
      firsts : (p : Process) (at : At) (y : List ℕ) → Holds c at (write tops at y p).piece
          → FirstFrom at.level at.guard (levels_of y p)
      firsts (Msg x vs) at y h = tt
      firsts (Par ps) at y h = firsts_all ps at y h
      firsts (Def ds p) at y h =
          let z = y ++ order ds in
          let bs = new_channels [] ds in
          let at1 = behind (inside at) (rules_in ds) in
          let d = write_defs tops at1 at.block 0 at.level bs z bs ds in
          let w = write tops d.piece.next z p in
          let own = level_of tops at at.block None z [] ds None in
          let block : Block = record { levels = at.level ∷ d.places; names = length (order ds) } in
          let front = block_piece at (rules_in ds) own d.guards block in
          let head = holds_left c at front (join d.piece w.piece) h in
          let back = holds_right c at front (join d.piece w.piece) (block_after at (rules_in ds) own
          d.guards block (guards_long tops ds at1 at.block 0 at.level bs z bs)) h in
          let next = next_is_defs tops ds at1 at.block 0 at.level bs z bs in
          let body = holds_right c at1 d.piece w.piece next back in
          let n_is = ap (λ (q : At). q.level) next in
          let g_is = ap (λ (q : At). q.guard) next in (
            (own, head.levels.0, refl),
            first_joined at1.level at1.guard (levels_of_defs z bs ds) (levels_of z p)
                (firsts_defs ds at1 at.block 0 at.level bs z bs
                (holds_left c at1 d.piece w.piece back))
                (first_at d.piece.next.level (at1.level + length (levels_of_defs z bs ds))
                d.piece.next.guard (at1.guard + all_rules (levels_of_defs z bs ds)) (levels_of z p)
                (omega (arith, n_is, levels_long_defs tops ds at1 at.block 0 at.level bs z bs))
                (omega (arith, g_is, guards_many_defs ds at1 at.block 0 at.level bs z bs))
                (firsts p d.piece.next z body)),
          )
      firsts (Go b k) at y h = tt
      firsts (Fail b k) at y h = tt
      firsts Halt at y h = tt

      firsts_all : (ps : Processes) (at : At) (y : List ℕ)
          → Holds c at (write_all tops at y ps).piece
          → FirstFrom at.level at.guard (levels_of_all y ps)
      firsts_all none at y h = tt
      firsts_all (one_more p ps) at y h =
          let w = write tops at y p in
          let v = write_all tops w.piece.next y ps in
          let next = next_is tops p at y in
          let n_is = ap (λ (q : At). q.level) next in
          let g_is = ap (λ (q : At). q.guard) next in
          first_joined at.level at.guard (levels_of y p) (levels_of_all y ps)
          (firsts p at y (holds_left c at w.piece v.piece h))
          (first_at w.piece.next.level (at.level + length (levels_of y p))
          w.piece.next.guard (at.guard + all_rules (levels_of y p)) (levels_of_all y ps)
          (omega (arith, n_is, levels_long tops p at y)) (omega (arith, g_is, guards_many p at y))
          (firsts_all ps w.piece.next y (holds_right c at w.piece v.piece next h)))

      firsts_defs : (ds : Definitions) (at : At) (b i n : ℕ) (channels z acc : List ℕ)
          → Holds c at (write_defs tops at b i n channels z acc ds).piece
          → FirstFrom at.level at.guard (levels_of_defs z acc ds)
      firsts_defs no_definition at b i n channels z acc h = tt
      firsts_defs (and_also d ds) at b i n channels z acc h =
          let a = write_def tops at b i n channels z acc d in
          let v = write_defs tops a.piece.next b (i + length a.places) n channels z
          (acc ++ place_in acc d) ds in
          let front = levels_of_def z acc d in
          let next = next_is_def tops d at b i n channels z acc in
          let n_is = ap (λ (q : At). q.level) next in
          let g_is = ap (λ (q : At). q.guard) next in
          first_joined at.level at.guard front (levels_of_defs z (acc ++ place_in acc d) ds)
          (firsts_def d at b i n channels z acc (holds_left c at a.piece v.piece h))
          (first_at a.piece.next.level (at.level + length front) a.piece.next.guard
          (at.guard + all_rules front) (levels_of_defs z (acc ++ place_in acc d) ds)
          (omega (arith, n_is, levels_long_def tops d at b i n channels z acc))
          (omega (arith, g_is, guards_many_def d at b i n channels z acc))
          (firsts_defs ds a.piece.next b (i + length a.places) n channels z (acc ++ place_in acc d)
          (holds_right c at a.piece v.piece next h)))

      firsts_def : (d : Definition) (at : At) (b i n : ℕ) (channels z acc : List ℕ)
          → Holds c at (write_def tops at b i n channels z acc d).piece
          → FirstFrom at.level at.guard (levels_of_def z acc d)
      firsts_def (Rule ps p) at b i n channels z acc h =
          let w = write tops at (z ++ params_of ps) p in
          firsts p at (z ++ params_of ps)
          (holds_left c at w.piece (body_piece w.piece.next w.instrs) h)
      firsts_def (Place x es p) at b i n channels z acc h =
          let at1 = behind at (rules_in es) in
          let own = new_channels (acc ++ binder_of x) es in
          let acc' = acc ++ place_order acc x es in
          let d = write_defs tops at1 b 0 at.level own z acc' es in
          let w = write tops d.piece.next z p in
          let v = level_of tops at b (Some i) z (acc ++ binder_of x) es (Some w.piece.next.body) in
          let head = level_piece at (rules_in es) v d.guards in
          let first = holds_left c at head (join d.piece (with_body tops w)) h in
          let inner = holds_right c at head (join d.piece (with_body tops w)) (level_after at
          (rules_in es) v d.guards (guards_long tops es at1 b 0 at.level own z acc')) h in
          let next = next_is_defs tops es at1 b 0 at.level own z acc' in
          let body = holds_right c at1 d.piece (with_body tops w) next inner in
          let n_is = ap (λ (q : At). q.level) next in
          let g_is = ap (λ (q : At). q.guard) next in (
            (v, first.levels.0, refl),
            first_joined at1.level at1.guard (levels_of_defs z acc' es) (levels_of z p)
                (firsts_defs es at1 b 0 at.level own z acc'
                (holds_left c at1 d.piece (with_body tops w) inner))
                (first_at d.piece.next.level (at1.level + length (levels_of_defs z acc' es))
                d.piece.next.guard (at1.guard + all_rules (levels_of_defs z acc' es))
                (levels_of z p)
                (omega (arith, n_is, levels_long_defs tops es at1 b 0 at.level own z acc'))
                (omega (arith, g_is, guards_many_defs es at1 b 0 at.level own z acc'))
                (firsts p d.piece.next z
                (holds_left c d.piece.next w.piece (body_piece w.piece.next w.instrs) body))),
          )

    firsts_sites : (ts : List SiteTerm) (at : At) → Holds c at (write_sites tops at ts).piece
        → FirstFrom at.level at.guard (levels_of_sites ts)
    firsts_sites [] at h = tt
    firsts_sites (u ∷ us) at h =
        let ds = term.definitions u.defs in
        let a = site_piece tops at ds u.body in
        let v = write_sites tops a.next us in
        let bs = new_channels [] ds in
        let at1 = sat tops at ds u.body in
        let d = sd tops at ds u.body in
        let w = sw tops at ds u.body in
        let front = sfront tops at ds u.body in
        let here = holds_left c at a v.piece h in
        let head = holds_left c at front (join d.piece (with_body tops w)) here in
        let back = holds_right c at front (join d.piece (with_body tops w))
        (front_next tops at ds u.body) here in
        let body =
        holds_right c at1 d.piece (with_body tops w) (defs_next tops at ds u.body) back in
        let inner = holds_left c d.piece.next w.piece (body_piece w.piece.next w.instrs) body in
        let own = level_of tops at at.block None [] [] ds None in
        let n_is = ap (λ (q : At). q.level) (defs_next tops at ds u.body) in
        let g_is = ap (λ (q : At). q.guard) (defs_next tops at ds u.body) in
        let m_is = ap (λ (q : At). q.level) (next_is tops u.body d.piece.next []) in
        let f_is = ap (λ (q : At). q.guard) (next_is tops u.body d.piece.next []) in
        let levels = levels_of_defs [] bs ds in
        let more = levels_of [] u.body in
        let many = guards_many_defs ds at1 at.block 0 at.level bs [] bs in
        let long = levels_long_defs tops ds at1 at.block 0 at.level bs [] bs in
        let first : FirstFrom at.level at.guard (levels_of_site u) = (
          (own, head.levels.0, refl),
          first_joined at1.level at1.guard levels more (firsts_defs ds at1 at.block 0 at.level bs []
              bs (holds_left c at1 d.piece (with_body tops w) back))
              (first_at d.piece.next.level (at1.level + length levels)
              d.piece.next.guard (at1.guard + all_rules levels) more (omega (arith, n_is, long))
              (omega (arith, g_is, many)) (firsts u.body d.piece.next [] inner)),
        ) in
        first_joined at.level at.guard (levels_of_site u) (levels_of_sites us) first
        (first_at a.next.level (at.level + length (levels_of_site u))
        a.next.guard (at.guard + all_rules (levels_of_site u)) (levels_of_sites us)
        (omega (
          arith,
          n_is,
          m_is,
          long,
          levels_long tops u.body d.piece.next [],
          length-append levels more,
        ))
        (omega
        (arith, g_is, f_is, many, guards_many u.body d.piece.next [], rules_joined levels more))
        (firsts_sites us a.next (holds_right c at a v.piece (site_next tops at ds u.body) h)))

-- there are as many guards as rules
guards_many_sites : (tops : Naming) (ts : List SiteTerm) (at : At)
    → length (write_sites tops at ts).piece.guards ≡ all_rules (levels_of_sites ts)
guards_many_sites tops [] at = refl
guards_many_sites tops (u ∷ us) at =
    let ds = term.definitions u.defs in
    let bs = new_channels [] ds in
    let at1 = sat tops at ds u.body in
    let d = sd tops at ds u.body in
    let w = sw tops at ds u.body in
    let v = write_sites tops (site_piece tops at ds u.body).next us in
    omega (
      arith,
      guards_long tops ds at1 at.block 0 at.level bs [] bs,
      guards_many_defs tops ds at1 at.block 0 at.level bs [] bs,
      guards_many tops u.body d.piece.next [],
      guards_many_sites tops us (site_piece tops at ds u.body).next,
      length-append (d.guards ++ (d.piece.guards ++ (w.piece.guards ++ []))) v.piece.guards,
      length-append d.guards (d.piece.guards ++ (w.piece.guards ++ [])),
      length-append d.piece.guards (w.piece.guards ++ []),
      length-append w.piece.guards [],
      rules_joined (levels_of_site u) (levels_of_sites us),
      rules_joined (levels_of_defs [] bs ds) (levels_of [] u.body),
    )

pub code_guards : (p : ProgramTerms) → length (code_of p).guards ≡ all_rules (levels_of_program p)
code_guards p = guards_many_sites (site_names p.sites)
    p.sites (record { level = 0; guard = 0; block = 0; body = 0 })

-- each level's guards begin behind those of the levels before
code_first : (p : ProgramTerms)
    → FirstFrom (site_names p.sites) (code_of p) 0 0 (levels_of_program p)
code_first p =
    let tops = site_names p.sites in
    let zero_at : At = record { level = 0; guard = 0; block = 0; body = 0 } in
    let w = write_sites tops zero_at p.sites in
    let holds : Holds (code_of p) zero_at w.piece = record {
      levels = has_all w.piece.levels;
      guards = has_all w.piece.guards;
      blocks = has_all w.piece.blocks;
      bodies = has_all w.piece.bodies;
    } in
    firsts_sites tops (code_of p) p.sites zero_at holds

pub level_first : (p : ProgramTerms) (i : ℕ) (t : LevelTerm)
    → slice_get (levels_of_program p) i ≡ Some t
    → (v : Level) × (slice_get (code_of p).levels i ≡ Some v)
    × (v.first ≡ all_rules (take i (levels_of_program p)))
level_first p i t e =
    let all =
    first_found (site_names p.sites) (code_of p) 0 0 (levels_of_program p) (code_first p) i t e in
    let at : i ≡ 0 + i = omega arith in
    (all.0, ap (slice_get (code_of p).levels) at ∙ all.1, omega (arith, all.2))
