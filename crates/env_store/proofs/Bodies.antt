-- What a body makes, where the bodies of the places that it opens have smaller numbers.
use Rattle.std.proofs.Common.{◌≡◌, ℕ, zero, suc, ◌+◌, ◌<◌, List, [], ◌∷◌, ◌++◌, ◌==◌, length}
use Rattle.std.proofs.Common.{Option, Some, None, Bool, true, false, cond, refl, sym, ap, ◌∙◌}
use Rattle.std.proofs.Common.{arith, eq-eqb, eqb-true}
use Rattle.std.specs.Prelude.{slice_get}
use Rattle.std.proofs.lemmas.Option.{slice_get_within}
use Rattle.chem_model.specs.declared.name.Loc.{Loc}
use Rattle.chem_model.specs.declared.name.Name.{Name}
use Rattle.chem_model.specs.Process as term
use Rattle.chem_model.specs.Pour.{message_made, atom_made}
use Rattle.env_store.specs.declared.code.Instr.{Instr}
use Rattle.env_store.specs.declared.code.Instr.TheVariants.{Send, Enter, Leave, Go, Fail, Halt}
use Rattle.env_store.specs.declared.code.Block.{Block}
use Rattle.env_store.specs.CodeParts.{CodeParts}
use Rattle.env_store.specs.Running.{ref_at, refs_at, Ran, atom_ran, then_ran, births_ran, group_ran}
use Rattle.env_store.specs.Running.{NumberedLevel, numbered_levels, loc_at, channel_names}
use Rattle.env_store.specs.Running.{place_names, place_births, after_place, Making, body_ran}
use Rattle.env_store.specs.Running.{places_ran, levels_entered, block_entered, run, run_body}
use Rattle.env_store.specs.Running.{made_below, code_made, without_last}
use Rattle.env_store.specs.CodeFacts.{IsBelow, AreBelow, IsBlockBelow, Falls, BodiesFall}

module _ (c : CodeParts) (s : ℕ) where
  last_body : (j : ℕ) (env : List Name) (l : Loc) (k : ℕ)
      → made_below c s (suc j) j env l k
      ≡ run_body c (made_below c s j) s (slice_get c.bodies j) env l k
  last_body j env l k =
      ap (λ t. cond t (run_body c (made_below c s j) s (slice_get c.bodies j) env l k)
      (made_below c s j j env l k)) (eq-eqb j j refl)

  -- the bound does not matter to the bodies below it
  any_bound : (n j : ℕ) (env : List Name) (l : Loc) (k : ℕ) → j < n
      → made_below c s n j env l k ≡ made_below c s (suc j) j env l k
  any_bound zero j env l k h = absurd (omega arith)
  any_bound (suc n) j env l k h = go (j == n) refl (any_bound n j env l k)
    where
      go : (t : Bool) → (j == n) ≡ t
          → (j < n → made_below c s n j env l k ≡ made_below c s (suc j) j env l k)
          → cond t (run_body c (made_below c s n) s (slice_get c.bodies n) env l k)
          (made_below c s n j env l k) ≡ made_below c s (suc j) j env l k
      go true e ih =
          let same : n ≡ j = sym (eqb-true j n e) in
          ap (λ x. run_body c (made_below c s x) s (slice_get c.bodies x) env l k) same
          ∙ sym (last_body j env l k)
      go false e ih =
          let apart : j ≡ n → ⊥ = λ q. let t = eq-eqb j n q in cc in
          ih (omega arith)

  -- ---- a run asks for the bodies of the places that it opens alone

  module _ (M N : Making) (n : ℕ) (agree : (j : ℕ) → j < n → (env : List Name) (l : Loc) (k : ℕ)
      → M j env l k ≡ N j env l k) where
    body_agrees : (o : Option ℕ) (env : List Name) (l : Loc) (k : ℕ) → IsBelow n o
        → body_ran M o env l k ≡ body_ran N o env l k
    body_agrees None env l k h = refl
    body_agrees (Some j) env l k h = agree j h env l k

    places_agree : (env : List Name) (kn k : ℕ) (vs : List NumberedLevel) → AreBelow n vs
        → places_ran M s env kn k vs ≡ places_ran N s env kn k vs
    places_agree env kn k [] h = refl
    places_agree env kn k (v ∷ vs) h =
        let q = loc_at s kn in
        let a = group_ran s q env (kn + 1) k v in
        let b = then_ran a (body_ran N v.level.body env q a.next) in
        (λ i. let b = then_ran a (body_agrees v.level.body env q a.next h.0 i) in
        then_ran b (places_ran M s env (after_place kn v.level) b.next vs))
        ∙ ap (then_ran b) (places_agree env (after_place kn v.level) b.next vs h.1)

    entered_agrees : (env : List Name) (l : Loc) (k : ℕ) (vs : List NumberedLevel) → AreBelow n vs
        → levels_entered M s env l k vs ≡ levels_entered N s env l k vs
    entered_agrees env l k [] h = refl
    entered_agrees env l k (v ∷ vs) h =
        let kn = k + length v.level.counts in
        let names = channel_names s l k v.level.counts ++ place_names s kn vs in
        let a = group_ran s l (env ++ names) k (k + length names) v in
        ap (λ (b : Ran). record {
          names = names;
          ran = then_ran (births_ran (k + length names) (place_births s kn vs)) (then_ran a b);
        }) (places_agree (env ++ names) kn a.next vs h.1)

    block_agrees : (env : List Name) (l : Loc) (k : ℕ) (o : Option Block) → IsBlockBelow c n o
        → block_entered c M s env l k o ≡ block_entered c N s env l k o
    block_agrees env l k None h = refl
    block_agrees env l k (Some b) h = entered_agrees env l k (numbered_levels c.levels b.levels) h

    run_agrees : (is : List Instr) (env : List Name) (l : Loc) (k : ℕ) → Falls c n is
        → run c M s is env l k ≡ run c N s is env l k
    run_agrees [] env l k h = refl
    run_agrees (Send on args ∷ is) env l k h =
        let a = atom_ran (message_made c.seen s l k (ref_at env on) (refs_at env args)) in
        ap (then_ran a) (run_agrees is env l a.next h)
    run_agrees (Enter b ∷ is) env l k h =
        let o = slice_get c.blocks b in
        let e = block_entered c N s env l k o in
        (λ i. let e = block_agrees env l k o h.0 i in
        then_ran e.ran (run c M s is (env ++ e.names) l e.ran.next))
        ∙ ap (then_ran e.ran) (run_agrees is (env ++ e.names) l e.ran.next h.1)
    run_agrees (Leave j ∷ is) env l k h = run_agrees is (without_last j env) l k h
    run_agrees (Go b j ∷ is) env l k h =
        ap (then_ran (atom_ran (atom_made s l k (term.Go (ref_at env b) (ref_at env j)))))
        (run_agrees is env l (k + 1) h)
    run_agrees (Fail b j ∷ is) env l k h =
        ap (then_ran (atom_ran (atom_made s l k (term.Fail (ref_at env b) (ref_at env j)))))
        (run_agrees is env l (k + 1) h)
    run_agrees (Halt ∷ is) env l k h =
        ap (then_ran (atom_ran (atom_made s l k term.Halt))) (run_agrees is env l (k + 1) h)

  -- a body makes what its instructions make
  pub code_made_is : BodiesFall c → (j : ℕ) (is : List Instr) → slice_get c.bodies j ≡ Some is
      → (env : List Name) (l : Loc) (k : ℕ)
      → code_made c s j env l k ≡ run c (code_made c s) s is env l k
  code_made_is falls j is e env l k =
      let count = length c.bodies in
      let within : j < count = slice_get_within c.bodies j is e in
      any_bound count j env l k within
      ∙ last_body j env l k
      ∙ ap (λ o. run_body c (made_below c s j) s o env l k) e
      ∙ run_agrees (made_below c s j) (code_made c s) j (λ i below env l k.
      any_bound j i env l k below ∙ sym (any_bound count i env l k (omega arith))) is env l k
      (falls j is e)
