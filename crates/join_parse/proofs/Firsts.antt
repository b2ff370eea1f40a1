-- The automaton stops exactly at the first refused token.
use Rattle.std.proofs.Common.{subst, ◌≡◌, ℕ, ◌+◌, ◌≤◌, ◌<◌, Bool, true, false, cond, List, [], ◌∷◌}
use Rattle.std.proofs.Common.{◌++◌, length, refl, sym, ap, ◌∙◌, arith, Option, Some, None}
use Rattle.std.proofs.Common.{append_assoc, append-nil, leb, length-append}
use Rattle.std.proofs.lemmas.Bool.Decides.{nat_tests}
use Rattle.join_base.specs.declared.fault.Kind.{Kind}
use Rattle.join_base.specs.declared.fault.Kind.TheVariants.{Grammar1, Grammar2}
use Rattle.join_base.specs.declared.fault.Front.TheVariants.{Refused}
use Rattle.join_lex.specs.declared.token.Key.TheVariants as key
use Rattle.join_lex.specs.declared.token.Kind2.{Kind2}
use Rattle.join_lex.specs.declared.token.Kind2.TheVariants as kind
use Rattle.join_lex.specs.declared.token.Token.{Token}
use Rattle.join_parse.specs.declared.bounds.Bounds.{Bounds}
use Rattle.join_parse.specs.Terminals.{kind_of, Terminal, terminal_of, terminals}
use Rattle.join_parse.specs.Grammar.{TreeOfText, Places, is_second, IsGrammatical, IsSentence}
use Rattle.join_parse.specs.Grammar.{sentence}
use Rattle.join_parse.specs.Levels.{levels, AreWithin}
use Rattle.join_parse.specs.Begins.{Symbol, start, Begins, completion}
use Rattle.join_parse.specs.inside.Automaton.{advance, may_end, level, Whole, Stop, next, outcome}
use Rattle.join_parse.specs.Faults.{IsTreeOf, GoesOn, NoneGoesOn, IsFirstRefused, IsFirstDeep}
use Rattle.join_parse.specs.Faults.{IsRefusedAs}
use Rattle.join_parse.proofs.Accepted.{followed, run, over, run-sentence}
use Rattle.join_parse.proofs.Completions.{where_behind, are-at, leads-sentence, leads-fills}
use Rattle.join_parse.proofs.Completions.{fills-sentence, may_end-fills}
use Rattle.join_parse.proofs.Steps.{Reach, reach-more, reach-leads}
use Rattle.join_parse.proofs.Rises.{advance-rises}

pub kind-of-terminal : (k : Kind2) (at : ℕ) → kind_of (terminal_of k at) ≡ k
kind-of-terminal (kind.Ident text) at = refl
kind-of-terminal (kind.Number n) at = refl
kind-of-terminal (kind.Key key.Site) at = refl
kind-of-terminal (kind.Key key.Observe) at = refl
kind-of-terminal (kind.Key key.Def) at = refl
kind-of-terminal (kind.Key key.Inside) at = refl
kind-of-terminal (kind.Key key.And) at = refl
kind-of-terminal (kind.Key key.Go) at = refl
kind-of-terminal (kind.Key key.Fail) at = refl
kind-of-terminal (kind.Key key.Halt) at = refl
kind-of-terminal (kind.Key key.Void) at = refl
kind-of-terminal (kind.Key key.Add) at = refl
kind-of-terminal (kind.Key key.Same) at = refl
kind-of-terminal (kind.Sign s) at = refl

abbrev of_token : Token → Terminal
of_token t = terminal_of t.kind t.span.from

run-token : (second : Bool) (t : Token) (ts : List Terminal) (stack after : List Symbol)
    → advance second stack t.kind ≡ Some after
    → run second (of_token t ∷ ts) stack ≡ over (λ ls. level after ∷ ls) (run second ts after)
run-token second t ts stack after e = rw (kind-of-terminal t.kind t.span.from, e) refl

terminals-append : (ts us : List Token) → terminals (ts ++ us) ≡ terminals ts ++ terminals us
terminals-append [] us = refl
terminals-append (t ∷ ts) us = ap (λ xs. of_token t ∷ xs) (terminals-append ts us)

within-more : (limit : ℕ) (ls : List ℕ) (l : ℕ) → AreWithin limit ls → l ≤ limit
    → AreWithin limit (ls ++ l ∷ [])
within-more limit [] l a h = (h, tt)
within-more limit (k ∷ ls) l a h = (a.0, within-more limit ls l a.1 h)

-- what was taken so far, with the levels along it
pub record Along (second : Bool) (limit : ℕ) (front : List Token)
    (stack : List Symbol) : Type 0 where
  pub reach : Reach second (start second) front stack
  pub levels : List ℕ
  pub same : length levels ≡ length front
  pub low : AreWithin limit levels
  pub ran : (ts : List Terminal)
      → run second (terminals front ++ ts) (start second)
      ≡ over (λ ls. levels ++ ls) (run second ts stack)
  pub open_now : level stack ≤ limit

level-start : (second : Bool) → level (start second) ≡ 0
level-start true = refl
level-start false = refl

pub along-none : (second : Bool) (limit : ℕ) → Along second limit [] (start second)
along-none second limit = record {
  reach = refl;
  levels = [];
  same = refl;
  low = tt;
  ran = λ ts. refl;
  open_now = omega (arith, level-start second);
}

ran-more :
    (second : Bool) (limit : ℕ) (front : List Token) (stack after : List Symbol) (t : Token)
    (a : Along second limit front stack) → advance second stack t.kind ≡ Some after
    → (ts : List Terminal)
    → run second (terminals (front ++ t ∷ []) ++ ts) (start second)
    ≡ over (λ ls. a.levels ++ level after ∷ ls) (run second ts after)
ran-more second limit front stack after t a e ts =
    ap (λ xs. run second (xs ++ ts) (start second)) (terminals-append front (t ∷ []))
    ∙ ap (λ xs. run second xs (start second)) (append_assoc (terminals front) (of_token t ∷ []) ts)
    ∙ a.ran (of_token t ∷ ts)
    ∙ ap (over (λ ls. a.levels ++ ls)) (run-token second t ts stack after e)

along-more :
    (second : Bool) (limit : ℕ) (front : List Token) (stack after : List Symbol) (t : Token)
    → Along second limit front stack → advance second stack t.kind ≡ Some after
    → level after ≤ limit → Along second limit (front ++ t ∷ []) after
along-more second limit front stack after t a e l = record {
  reach = reach-more second _ front stack after t a.reach e;
  levels = a.levels ++ level after ∷ [];
  same = simp length-append (omega (arith, a.same));
  low = within-more limit a.levels (level after) a.low l;
  ran = λ ts. ran-more second limit front stack after t a e ts
      ∙ sym (ap (λ ls. (ls, (run second ts after).1))
      (append_assoc a.levels (level after ∷ []) (run second ts after).0));
  open_now = l;
}

-- a sentence that goes on from what was taken
sentence-levels :
    (second : Bool) (at : Places) (t : TreeOfText) (xs : List Terminal) (ls : List ℕ) (b : Bool)
    → is_second t.version ≡ second → IsGrammatical t → sentence at t ≡ xs
    → run second xs (start second) ≡ (ls, b) → levels t ≡ ls
sentence-levels second at t xs ls b v g e r =
    let h : (levels t, true) ≡ (ls, b) =
    sym (run-sentence second at t v g) ∙ ap (λ x. run second x (start second)) e ∙ r in
    ap (λ p. p.0) h

pub along-goes : (second : Bool) (limit : ℕ) (front : List Token) (stack : List Symbol)
    → Along second limit front stack → GoesOn second limit front
along-goes second limit front stack a =
    let s = leads-sentence second (terminals front) stack
    (reach-leads second (start second) front stack a.reach) in
    record {
      tree = s.0;
      version = s.2;
      more = completion stack;
      grammatical = s.3;
      at = s.1;
      spelled = s.4;
      before = a.levels;
      after = (run second (completion stack) stack).0;
      levels_are = sentence-levels second s.1 s.0 (terminals front ++ completion stack) _ _
          s.2 s.3 s.4 (a.ran (completion stack));
      along = a.same;
      low = a.low;
    }

-- the tokens of a sentence, or of its beginning, are taken
followed-some :
    (go : List Symbol → List ℕ × Bool) (o : Option (List Symbol)) (l : ℕ) (ls : List ℕ) (b : Bool)
    → followed go o ≡ (l ∷ ls, b)
    → (after : List Symbol) × (o ≡ Some after) × (level after ≡ l) × (go after ≡ (ls, b))
followed-some go None l ls b e = let h : [] ≡ l ∷ ls = ap (λ p. p.0) e in cc
followed-some go (Some after) l ls b e =
    let h : level after ∷ (go after).0 ≡ l ∷ ls = ap (λ p. p.0) e in
    let i : (go after).1 ≡ b = ap (λ p. p.1) e in
    let m : level after ≡ l = cc in
    let n : (go after).0 ≡ ls = cc in
    (after, refl, m, λ j. (n j, i j))

token-taken :
    (second : Bool) (t : Token) (ts : List Terminal) (stack : List Symbol) (l : ℕ) (ls : List ℕ)
    (b : Bool) → run second (of_token t ∷ ts) stack ≡ (l ∷ ls, b)
    → (after : List Symbol) × (advance second stack t.kind ≡ Some after) × (level after ≡ l)
    × (run second ts after ≡ (ls, b))
token-taken second t ts stack l ls b e = followed-some (run second ts) (advance second stack t.kind)
    l ls b (rw (kind-of-terminal t.kind t.span.from) at e)

pub accepted-some : (go : List Symbol → List ℕ × Bool) (o : Option (List Symbol)) (ls : List ℕ)
    → followed go o ≡ (ls, true)
    → (after : List Symbol) × (o ≡ Some after) × (go after ≡ ((go after).0, true))
accepted-some go None ls e = let h : false ≡ true = ap (λ p. p.1) e in cc
accepted-some go (Some after) ls e =
    let i : (go after).1 ≡ true = ap (λ p. p.1) e in
    (after, refl, λ j. ((go after).0, i j))

-- a prefix of what is accepted leads to what is expected then
pub accepted-leads :
    (second : Bool) (front : List Token) (more : List Terminal) (stack : List Symbol) (ls : List ℕ)
    → run second (terminals front ++ more) stack ≡ (ls, true)
    → (after : List Symbol) × Reach second stack front after
accepted-leads second [] more stack ls e = (stack, refl)
accepted-leads second (t ∷ front) more stack ls e =
    let s = accepted-some (run second (terminals front ++ more)) (advance second stack t.kind) ls
    (rw (kind-of-terminal t.kind t.span.from) at e) in
    let r = accepted-leads second front more s.0 _ s.2 in
    (r.0, (s.0, s.1, r.1))

-- Every prefix of a sentence begins.
pub prefix-begins :
    (second : Bool) (at : Places) (t : TreeOfText) (front : List Token) (more : List Terminal)
    → is_second t.version ≡ second → IsGrammatical t → sentence at t ≡ terminals front ++ more
    → Begins second front
prefix-begins second at t front more v g e =
    let r = accepted-leads second front more (start second) (levels t)
    (ap (λ x. run second x (start second)) (sym e) ∙ run-sentence second at t v g) in
    (r.0, reach-leads second (start second) front r.0 r.1)

-- What begins is taken by the automaton.
pub begins-reach : (second : Bool) (front : List Token) → Begins second front
    → (after : List Symbol) × Reach second (start second) front after
begins-reach second front (after, l) =
    let s = leads-sentence second (terminals front) after l in
    accepted-leads second front (completion after) (start second) (levels s.0)
    (ap (λ x. run second x (start second)) (sym s.4) ∙ run-sentence second s.1 s.0 s.2 s.3)

reach-split :
    (second : Bool) (stack : List Symbol) (front : List Token) (t : Token) (mid after : List Symbol)
    → Reach second stack front mid → Reach second stack (front ++ t ∷ []) after
    → advance second mid t.kind ≡ Some after
reach-split second stack [] t mid after r (m, a, q) = rw (r, q) at a
reach-split second stack (u ∷ front) t mid after (m, a, r) (n, b, q) =
    let same : m ≡ n = cc in
    reach-split second n front t mid after (subst (λ x. Reach second x front mid) same r) q

-- what is accepted is a sentence
accepted-reach : (second : Bool) (ts : List Token) (stack : List Symbol) (ls : List ℕ)
    → run second (terminals ts) stack ≡ (ls, true)
    → (after : List Symbol) × Reach second stack ts after × (may_end after ≡ true)
accepted-reach second [] stack ls e = (stack, refl, ap (λ p. p.1) e)
accepted-reach second (t ∷ ts) stack ls e =
    let s = accepted-some (run second (terminals ts)) (advance second stack t.kind) ls
    (rw (kind-of-terminal t.kind t.span.from) at e) in
    let r = accepted-reach second ts s.0 _ s.2 in
    (r.0, (s.0, s.1, r.1), r.2)

-- what may end is a sentence
pub ended-sentence : (second : Bool) (ts : List Token) (after : List Symbol)
    → Reach second (start second) ts after → may_end after ≡ true
    → (t : TreeOfText) × (is_second t.version ≡ second) × IsSentence ts t
ended-sentence second ts after r e =
    let at = where_behind (terminals ts ++ []) in
    let s = fills-sentence second at (terminals ts ++ []) (leads-fills second at (start second)
    (terminals ts) after [] (reach-leads second (start second) ts after r)
    (are-at (terminals ts ++ [])) (may_end-fills second at after e)) in (
      s.0,
      s.1,
      record { grammatical = s.2; at = at; spelled = sym (append-nil (terminals ts)) ∙ sym s.3 },
    )

pub accepted-sentence : (second : Bool) (ts : List Token) (ls : List ℕ)
    → run second (terminals ts) (start second) ≡ (ls, true)
    → (t : TreeOfText) × (is_second t.version ≡ second) × IsSentence ts t
accepted-sentence second ts ls e =
    let r = accepted-reach second ts (start second) ls e in
    ended-sentence second ts r.0 r.1 r.2

-- The tokens that go on are taken, and the automaton is where it was.
pub record Taken (b : Bounds) (front : List Token) (more : List Terminal) (after : List ℕ)
    (stack : List Symbol) : Type 0 where
  pub reach : Reach b.second (start b.second) front stack
  pub ran : run b.second more stack ≡ (after, true)
  pub same : (ts : List Token) → outcome b (front ++ ts) (start b.second) ≡ outcome b ts stack

module _ (b : Bounds) where
  taken-from :
      (front : List Token) (stack : List Symbol) (more : List Terminal) (before after : List ℕ)
      → run b.second (terminals front ++ more) stack ≡ (before ++ after, true)
      → length before ≡ length front → AreWithin b.levels before
      → (mid : List Symbol) × Reach b.second stack front mid
      × (run b.second more mid ≡ (after, true))
      × ((ts : List Token) → outcome b (front ++ ts) stack ≡ outcome b ts mid)
  unfolding outcome
  taken-from [] stack more [] after r n a = (stack, refl, r, λ ts. refl)
  taken-from [] stack more (l ∷ before) after r n a = absurd (omega arith)
  taken-from (t ∷ front) stack more [] after r n a = absurd (omega arith)
  taken-from (t ∷ front) stack more (l ∷ before) after r n a =
      let s = token-taken b.second t (terminals front ++ more) stack l (before ++ after) true r in
      let i = taken-from front s.0 more before after s.3 (omega arith) a.1 in
      let low : leb (level s.0) b.levels ≡ true = lower (level s.0) l b.levels s.2 a.0 in
      (i.0, (s.0, s.1, i.1), i.2, λ ts. rw (s.1, low) (i.3 ts))
    where
      lower : (m l limit : ℕ) → m ≡ l → l ≤ limit → leb m limit ≡ true
      lower m l limit e h = grind (arith, nat_tests)

  pub goes-taken :
      (front : List Token) (at : Places) (t : TreeOfText) (more : List Terminal)
      (before after : List ℕ) → is_second t.version ≡ b.second → IsGrammatical t
      → sentence at t ≡ terminals front ++ more → levels t ≡ before ++ after
      → length before ≡ length front → AreWithin b.levels before
      → (stack : List Symbol) × Taken b front more after stack
  goes-taken front at t more before after v g e l n a =
      let r : run b.second (terminals front ++ more) (start b.second) ≡ (before ++ after, true) =
      ap (λ x. run b.second x (start b.second)) (sym e) ∙ run-sentence b.second at t v g
      ∙ ap (λ ls. (ls, true)) l in
      let i = taken-from front (start b.second) more before after r n a in
      (i.0, record { reach = i.1; ran = i.2; same = i.3 })

  -- the three outcomes, from the definitions
  length-run : (ts : List Token) (stack : List Symbol) (ls : List ℕ)
      → run b.second (terminals ts) stack ≡ (ls, true) → length ls ≡ length ts
  length-run [] stack ls e = let h : [] ≡ ls = ap (λ p. p.0) e in rw (← h) refl
  length-run (t ∷ ts) stack ls e =
      let s = accepted-some (run b.second (terminals ts)) (advance b.second stack t.kind) ls
      (rw (kind-of-terminal t.kind t.span.from) at e) in
      let i = length-run ts s.0 _ s.2 in
      let f : followed (run b.second (terminals ts)) (advance b.second stack t.kind) ≡ (ls, true) =
      rw (kind-of-terminal t.kind t.span.from) at e in
      let h : level s.0 ∷ (run b.second (terminals ts) s.0).0 ≡ ls = ap (λ p. p.0) (rw s.1 at f) in
      rw (← h) (omega arith)

  pub tree-outcome : (ts : List Token) (t : TreeOfText) → IsTreeOf b.second b.levels ts t
      → outcome b ts (start b.second) ≡ Whole
  unfolding outcome
  tree-outcome ts t i =
      let e : sentence i.is.at t ≡ terminals ts ++ [] =
      sym i.is.spelled ∙ sym (append-nil (terminals ts)) in
      let r : run b.second (terminals ts) (start b.second) ≡ (levels t, true) =
      ap (λ x. run b.second x (start b.second)) i.is.spelled
      ∙ run-sentence b.second i.is.at t i.version i.is.grammatical in
      let k = goes-taken ts i.is.at t [] (levels t) [] i.version i.is.grammatical e
      (sym (append-nil (levels t))) (length-run ts (start b.second) (levels t) r) i.low in
      let ended : may_end k.0 ≡ true = ap (λ p. p.1) k.1.ran in
      let same = k.1.same [] in
      ap (λ xs. outcome b xs (start b.second)) (sym (append-nil ts)) ∙ same ∙ rw ended refl

  pub refused-outcome : (ts : List Token) (place : ℕ)
      → IsFirstRefused b.second b.levels b.end ts place
      → outcome b ts (start b.second) ≡ Stop Grammar1 place
  unfolding outcome
  refused-outcome ts place f = by f.next f.all f.refused
    where
      by : (next : List Token) → ts ≡ f.front ++ next → NoneGoesOn b.second b.end f.front next place
          → outcome b ts (start b.second) ≡ Stop Grammar1 place
      by [] all refused =
          let k = goes-taken f.front f.goes.at f.goes.tree f.goes.more f.goes.before f.goes.after
          f.goes.version f.goes.grammatical f.goes.spelled f.goes.levels_are f.goes.along
          f.goes.low in
          ap (λ xs. outcome b xs (start b.second)) all ∙ k.1.same []
          ∙ at-end (may_end k.0) k.0 refl k.1.reach refused.0 refused.1
        where
          at-end : (v : Bool) (stack : List Symbol) → may_end stack ≡ v
              → Reach b.second (start b.second) f.front stack → place ≡ b.end
              → ((t : TreeOfText) → is_second t.version ≡ b.second → IsSentence f.front t → ⊥)
              → outcome b [] stack ≡ Stop Grammar1 place
          at-end true stack e r q never =
              let s = ended-sentence b.second f.front stack r e in
              absurd (never s.0 s.1 s.2)
          at-end false stack e r q never = rw (e, q) refl
      by (t ∷ next) all refused =
          let k = goes-taken f.front f.goes.at f.goes.tree f.goes.more f.goes.before f.goes.after
          f.goes.version f.goes.grammatical f.goes.spelled f.goes.levels_are f.goes.along
          f.goes.low in
          ap (λ xs. outcome b xs (start b.second)) all ∙ k.1.same (t ∷ next)
          ∙ on-token (advance b.second k.0 t.kind) k.0 refl k.1.reach refused.0 refused.1
        where
          on-token : (o : Option (List Symbol)) (stack : List Symbol)
              → advance b.second stack t.kind ≡ o → Reach b.second (start b.second) f.front stack
              → place ≡ t.span.from → (Begins b.second (f.front ++ t ∷ []) → ⊥)
              → outcome b (t ∷ next) stack ≡ Stop Grammar1 place
          on-token None stack e r q never = rw (e, q) refl
          on-token (Some after) stack e r q never = absurd (never (
            after,
            reach-leads b.second (start b.second) (f.front ++ t ∷ []) after
                (reach-more b.second _ f.front stack after t r e),
          ))

  pub deep-outcome : (ts : List Token) (place : ℕ) → IsFirstDeep b.second b.levels ts place
      → outcome b ts (start b.second) ≡ Stop Grammar2 place
  unfolding outcome
  deep-outcome ts place f =
      let e : sentence f.at f.tree ≡ terminals f.front ++ of_token f.token ∷ f.more =
      f.spelled ∙ ap (λ xs. xs ++ f.more) (terminals-append f.front (f.token ∷ []))
      ∙ append_assoc (terminals f.front) (of_token f.token ∷ []) f.more in
      let k = goes-taken f.front f.at f.tree (of_token f.token ∷ f.more)
      f.before ((b.levels + 1) ∷ f.after) f.version f.grammatical e f.levels_are f.along f.low in
      let s = token-taken b.second f.token f.more k.0 (b.levels + 1) f.after true k.1.ran in
      let deep : leb (level s.0) b.levels ≡ false = higher (level s.0) b.levels s.2 in
      ap (λ xs. outcome b xs (start b.second)) f.all ∙ k.1.same (f.token ∷ f.next)
      ∙ rw (s.1, deep, f.is_at) refl
    where
      higher : (m limit : ℕ) → m ≡ limit + 1 → leb m limit ≡ false
      higher m limit h = grind (arith, nat_tests)

  -- the definitions, from the outcomes
  pub stop-refused : (front ts : List Token) (stack : List Symbol) (place : ℕ)
      → Along b.second b.levels front stack → outcome b ts stack ≡ Stop Grammar1 place
      → IsFirstRefused b.second b.levels b.end (front ++ ts) place
  unfolding outcome
  stop-refused front [] stack place a e = at-end (may_end stack) refl e
    where
      at-end : (v : Bool) → may_end stack ≡ v
          → cond v Whole (Stop Grammar1 b.end) ≡ Stop Grammar1 place
          → IsFirstRefused b.second b.levels b.end (front ++ []) place
      at-end true q e = cc
      at-end false q e = record {
        front = front;
        next = [];
        all = refl;
        goes = along-goes b.second b.levels front stack a;
        refused = (cc, not-sentence q);
      }
        where
          not-sentence : may_end stack ≡ false → (t : TreeOfText) → is_second t.version ≡ b.second
              → IsSentence front t → ⊥
          not-sentence q t v i =
              let whole : run b.second (terminals front ++ []) (start b.second) ≡ (levels t, true) =
              ap (λ x. run b.second x (start b.second)) (append-nil (terminals front) ∙ i.spelled)
              ∙ run-sentence b.second i.at t v i.grammatical in
              let there = a.ran [] in
              let h : may_end stack ≡ true = ap (λ p. p.1) (sym there ∙ whole) in
              absurd (let no : true ≡ false = sym h ∙ q in cc)
  stop-refused front (t ∷ ts) stack place a e =
      on-token (λ after q l k. stop-refused (front ++ t ∷ []) ts after place
      (along-more b.second b.levels front stack after t a q l) k) (advance b.second stack t.kind)
      refl e
    where
      on-token :
          ((after : List Symbol) → advance b.second stack t.kind ≡ Some after
          → level after ≤ b.levels → outcome b ts after ≡ Stop Grammar1 place
          → IsFirstRefused b.second b.levels b.end ((front ++ t ∷ []) ++ ts) place)
          → (o : Option (List Symbol)) → advance b.second stack t.kind ≡ o
          → next b (outcome b ts) t.span.from o ≡ Stop Grammar1 place
          → IsFirstRefused b.second b.levels b.end (front ++ t ∷ ts) place
      on-token later None q e = record {
        front = front;
        next = t ∷ ts;
        all = refl;
        goes = along-goes b.second b.levels front stack a;
        refused = (cc, none-begins q);
      }
        where
          none-begins : advance b.second stack t.kind ≡ None → Begins b.second (front ++ t ∷ []) → ⊥
          none-begins q begins =
              let r = begins-reach b.second (front ++ t ∷ []) begins in
              let s = reach-split b.second (start b.second) front t stack r.0 a.reach r.1 in
              absurd (let no : None ≡ Some r.0 = sym q ∙ s in cc)
      on-token later (Some after) q e = deeper (leb (level after) b.levels) refl e
        where
          deeper : (v : Bool) → leb (level after) b.levels ≡ v
              → cond v (outcome b ts after) (Stop Grammar2 t.span.from) ≡ Stop Grammar1 place
              → IsFirstRefused b.second b.levels b.end (front ++ t ∷ ts) place
          deeper true w e = rw append_assoc at (later after q (grind (arith, nat_tests)) e)
          deeper false w e = cc

  at-deep : (front : List Token) (stack after : List Symbol) (t : Token) (ts : List Token)
      → Along b.second b.levels front stack → advance b.second stack t.kind ≡ Some after
      → b.levels < level after → IsFirstDeep b.second b.levels (front ++ t ∷ ts) t.span.from
  at-deep front stack after t ts a e l =
      let s = leads-sentence b.second (terminals (front ++ t ∷ [])) after
      (reach-leads b.second (start b.second) (front ++ t ∷ []) after
      (reach-more b.second _ front stack after t a.reach e)) in
      let one_more : level after ≡ b.levels + 1 =
      rises (level stack) (level after) (advance-rises b.second stack after t.kind e)
      a.open_now l in
      record {
        front = front;
        token = t;
        next = ts;
        all = refl;
        is_at = refl;
        tree = s.0;
        version = s.2;
        more = completion after;
        grammatical = s.3;
        at = s.1;
        spelled = s.4;
        before = a.levels;
        after = (run b.second (completion after) after).0;
        levels_are =
            sentence-levels b.second s.1 s.0 (terminals (front ++ t ∷ []) ++ completion after) _ _
            s.2 s.3 s.4 (ran-more b.second b.levels front stack after t a e (completion after))
            ∙ ap (λ l. a.levels ++ l ∷ (run b.second (completion after) after).0) one_more;
        along = a.same;
        low = a.low;
      }
    where
      rises : (m n : ℕ) → n ≤ m + 1 → m ≤ b.levels → b.levels < n → n ≡ b.levels + 1
      rises m n r h l = omega arith

  pub stop-deep : (front ts : List Token) (stack : List Symbol) (place : ℕ)
      → Along b.second b.levels front stack → outcome b ts stack ≡ Stop Grammar2 place
      → IsFirstDeep b.second b.levels (front ++ ts) place
  unfolding outcome
  stop-deep front [] stack place a e = at-end (may_end stack) e
    where
      at-end : (v : Bool) → cond v Whole (Stop Grammar1 b.end) ≡ Stop Grammar2 place
          → IsFirstDeep b.second b.levels (front ++ []) place
      at-end true e = cc
      at-end false e = cc
  stop-deep front (t ∷ ts) stack place a e = on-token (λ after q l k. stop-deep (front ++ t ∷ []) ts
      after place (along-more b.second b.levels front stack after t a q l) k)
      (advance b.second stack t.kind) refl e
    where
      on-token :
          ((after : List Symbol) → advance b.second stack t.kind ≡ Some after
          → level after ≤ b.levels → outcome b ts after ≡ Stop Grammar2 place
          → IsFirstDeep b.second b.levels ((front ++ t ∷ []) ++ ts) place)
          → (o : Option (List Symbol)) → advance b.second stack t.kind ≡ o
          → next b (outcome b ts) t.span.from o ≡ Stop Grammar2 place
          → IsFirstDeep b.second b.levels (front ++ t ∷ ts) place
      on-token later None q e = cc
      on-token later (Some after) q e = deeper (leb (level after) b.levels) refl e
        where
          deeper : (v : Bool) → leb (level after) b.levels ≡ v
              → cond v (outcome b ts after) (Stop Grammar2 t.span.from) ≡ Stop Grammar2 place
              → IsFirstDeep b.second b.levels (front ++ t ∷ ts) place
          deeper true w e = rw append_assoc at (later after q (grind (arith, nat_tests)) e)
          deeper false w e =
              let same : t.span.from ≡ place = cc in
              subst (IsFirstDeep b.second b.levels (front ++ t ∷ ts)) same
              (at-deep front stack after t ts a q (grind (arith, nat_tests)))

  -- where the automaton accepts, no level is above the limit
  pub whole-low : (ts : List Token) (stack : List Symbol) (ls : List ℕ) → outcome b ts stack ≡ Whole
      → run b.second (terminals ts) stack ≡ (ls, true) → AreWithin b.levels ls
  unfolding outcome
  whole-low [] stack ls e r = let h : [] ≡ ls = ap (λ p. p.0) r in subst (AreWithin b.levels) h tt
  whole-low (t ∷ ts) stack ls e r =
      on-token (λ after k m. whole-low ts after (run b.second (terminals ts) after).0 k m)
      (advance b.second stack t.kind) e (rw (kind-of-terminal t.kind t.span.from) at r)
    where
      on-token :
          ((after : List Symbol) → outcome b ts after ≡ Whole
          → run b.second (terminals ts) after ≡ ((run b.second (terminals ts) after).0, true)
          → AreWithin b.levels (run b.second (terminals ts) after).0) → (o : Option (List Symbol))
          → next b (outcome b ts) t.span.from o ≡ Whole
          → followed (run b.second (terminals ts)) o ≡ (ls, true) → AreWithin b.levels ls
      on-token later None e r = absurd (let h : Stop Grammar1 t.span.from ≡ Whole = e in cc)
      on-token later (Some after) e r = deeper (leb (level after) b.levels) refl e
        where
          deeper : (v : Bool) → leb (level after) b.levels ≡ v
              → cond v (outcome b ts after) (Stop Grammar2 t.span.from) ≡ Whole
              → AreWithin b.levels ls
          deeper false w e = absurd (let h : Stop Grammar2 t.span.from ≡ Whole = e in cc)
          deeper true w e =
              let h : level after ∷ (run b.second (terminals ts) after).0 ≡ ls = ap (λ p. p.0) r in
              let i : (run b.second (terminals ts) after).1 ≡ true = ap (λ p. p.1) r in
              subst (AreWithin b.levels) h (
                grind (arith, nat_tests),
                later after e (λ j. ((run b.second (terminals ts) after).0, i j)),
              )

  -- what the automaton accepts is a sentence
  whole-accepted : (ts : List Token) (stack : List Symbol) → outcome b ts stack ≡ Whole
      → (run b.second (terminals ts) stack).1 ≡ true
  unfolding outcome
  whole-accepted [] stack e = at-end (may_end stack) refl e
    where
      at-end : (v : Bool) → may_end stack ≡ v → cond v Whole (Stop Grammar1 b.end) ≡ Whole
          → may_end stack ≡ true
      at-end true q e = q
      at-end false q e = cc
  whole-accepted (t ∷ ts) stack e = rw (kind-of-terminal t.kind t.span.from)
      (on-token (λ after k. whole-accepted ts after k) (advance b.second stack t.kind) e)
    where
      on-token :
          ((after : List Symbol) → outcome b ts after ≡ Whole
          → (run b.second (terminals ts) after).1 ≡ true) → (o : Option (List Symbol))
          → next b (outcome b ts) t.span.from o ≡ Whole
          → (followed (run b.second (terminals ts)) o).1 ≡ true
      on-token later None e = absurd (let h : Stop Grammar1 t.span.from ≡ Whole = e in cc)
      on-token later (Some after) e = deeper (leb (level after) b.levels) e
        where
          deeper : (v : Bool) → cond v (outcome b ts after) (Stop Grammar2 t.span.from) ≡ Whole
              → (run b.second (terminals ts) after).1 ≡ true
          deeper true e = later after e
          deeper false e = absurd (let h : Stop Grammar2 t.span.from ≡ Whole = e in cc)

  pub whole-tree : (ts : List Token) → outcome b ts (start b.second) ≡ Whole
      → (t : TreeOfText) × IsTreeOf b.second b.levels ts t
  whole-tree ts e =
      let a = whole-accepted ts (start b.second) e in
      let s = accepted-sentence b.second ts (run b.second (terminals ts) (start b.second)).0
      (λ i. ((run b.second (terminals ts) (start b.second)).0, a i)) in (
        s.0,
        record {
          version = s.1;
          is = s.2;
          low = whole-low ts (start b.second) (levels s.0) e
              (ap (λ x. run b.second x (start b.second)) s.2.spelled
              ∙ run-sentence b.second s.2.at s.0 s.1 s.2.grammatical);
        },
      )

  -- no other kind of fault
  pub only-grammar : (ts : List Token) (stack : List Symbol) (kind : Kind) (place : ℕ)
      → outcome b ts stack ≡ Stop kind place → (P : Kind → Type 0) → P Grammar1 → P Grammar2
      → P kind
  unfolding outcome
  only-grammar [] stack kind place e P p q = at-end (may_end stack) e
    where
      at-end : (v : Bool) → cond v Whole (Stop Grammar1 b.end) ≡ Stop kind place → P kind
      at-end true e = absurd (let no : Whole ≡ Stop kind place = e in cc)
      at-end false e = let same : Grammar1 ≡ kind = cc in subst P same p
  only-grammar (t ∷ ts) stack kind place e P p q =
      on-token (λ after k. only-grammar ts after kind place k P p q) (advance b.second stack t.kind)
      e
    where
      on-token : ((after : List Symbol) → outcome b ts after ≡ Stop kind place → P kind)
          → (o : Option (List Symbol)) → next b (outcome b ts) t.span.from o ≡ Stop kind place
          → P kind
      on-token later None e = let same : Grammar1 ≡ kind = cc in subst P same p
      on-token later (Some after) e = deeper (leb (level after) b.levels) e
        where
          deeper : (v : Bool)
              → cond v (outcome b ts after) (Stop Grammar2 t.span.from) ≡ Stop kind place → P kind
          deeper true e = later after e
          deeper false e = let same : Grammar2 ≡ kind = cc in subst P same q

  -- Where the automaton stops at the whole text, its tokens are refused so.
  pub stop-fault : (ts : List Token) (kind : Kind) (place : ℕ)
      → outcome b ts (start b.second) ≡ Stop kind place
      → IsRefusedAs b.second b.levels b.end ts (Refused kind place)
  stop-fault ts kind place e =
      only-grammar ts (start b.second) kind place e
      (λ k. outcome b ts (start b.second) ≡ Stop k place
      → IsRefusedAs b.second b.levels b.end ts (Refused k place))
      (λ q. stop-refused [] ts (start b.second) place (along-none b.second b.levels) q)
      (λ q. stop-deep [] ts (start b.second) place (along-none b.second b.levels) q) e

  -- Where tokens are refused so, the automaton stops.
  pub fault-stop : (ts : List Token) (kind : Kind) (place : ℕ)
      → IsRefusedAs b.second b.levels b.end ts (Refused kind place)
      → outcome b ts (start b.second) ≡ Stop kind place
  fault-stop ts Grammar1 place f = refused-outcome ts place f
  fault-stop ts Grammar2 place f = deep-outcome ts place f
  fault-stop ts kind place f = absurd f
