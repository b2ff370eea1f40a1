-- A request that can't be met waits for the failure of a location that isn't dead, or never can.
use Rattle.std.proofs.Common.{◌≡◌, ℕ, ◌==◌, Some, None, Bool, true, false, cond, refl, sym, ap, ◌∙◌}
use Rattle.std.proofs.Common.{◌&&◌, ◌||◌, ◌⊎◌, inl, inr, is_some, eq-eqb, []}
use Rattle.std.specs.Prelude.{not}
use Rattle.std.proofs.lemmas.Bool.{false≢true}
use Rattle.chem_model.specs.declared.name.Loc.{Loc}
use Rattle.chem_model.specs.declared.name.Name.TheVariants as name
use Rattle.chem_model.specs.declared.name.Ref.TheVariants.{Binder, Known}
use Rattle.chem_model.specs.declared.event.AtomId.{AtomId}
use Rattle.chem_model.specs.declared.numbered.NumberedAtom.{NumberedAtom}
use Rattle.chem_model.specs.declared.numbered.Numbered.{Numbered}
use Rattle.chem_model.specs.Process.{Process, Msg, Par, Def, Go, Fail, Halt}
use Rattle.chem_model.specs.Reduction.{continuation}
use Rattle.chem_model.specs.Solution.{Places, is_there, dead, live}
use Rattle.chem_model.specs.Numbered.{standing}
use Rattle.chem_model.specs.Pour.{pour_at}
use Rattle.chem_model.specs.Apply.{can_go, can_fall, falls, can_detect, moved, without, with_marks}
use Rattle.chem_model.specs.Sound.{IsAtom, IsNameOf, IsSettled}
use Rattle.chem_laws.proofs.Lists.{true_both}
use Rattle.chem_causes.specs.Ready.{can_act}
use Rattle.book_store.specs.Asked.{goal, awaited, has_host, IsNever, asks_nothing, at_dead}
use Rattle.book_store.specs.Asked.{from_root, to_hosted, to_dead}

-- it waits for a location that isn't dead, or it can never be met
abbrev pub Rests : ℕ → Places → Loc → Process → Type 0
Rests version pl l q =
    ((t : Loc) × (awaited q ≡ Some t) × (dead pl t ≡ false)) ⊎ IsNever version pl l q

-- ---- truth values

clash : {X : Type 0} (t : Bool) → t ≡ false → t ≡ true → X
clash t e f = absurd (false≢true (sym e ∙ f))

-- of three options none is there
no_move : {X : Type 0} (t u : Bool) (x y : X)
    → is_some (cond t (Some x) (cond u (Some y) None)) || (false || false) ≡ false
    → (t ≡ false) × (u ≡ false)
no_move true u x y e = absurd (false≢true (sym e))
no_move false true x y e = absurd (false≢true (sym e))
no_move false false x y e = (refl, refl)

no_halt : {X : Type 0} (t : Bool) (x : X)
    → false || (is_some (cond t (Some x) None) || false) ≡ false → t ≡ false
no_halt true x e = absurd (false≢true (sym e))
no_halt false x e = refl

no_detection : {X : Type 0} (t : Bool) (x : X)
    → false || (false || is_some (cond t (Some x) None)) ≡ false → t ≡ false
no_detection true x e = absurd (false≢true (sym e))
no_detection false x e = refl

-- ---- what a test that failed tells

module _ (n : Numbered) (l : Loc) (there : is_there (standing n.places l) ≡ true) where
  lives : (b : Loc) → is_there (standing n.places b) ≡ true → dead (standing n.places) b ≡ false
      → live (standing n.places) b ≡ true
  lives b t d =
      true_both (is_there (standing n.places b)) (not (dead (standing n.places) b)) t (ap not d)

  -- a live location that has a host asks to go to one that is there
  no_go : (b : Loc) → is_there (standing n.places b) ≡ true → can_go n l b ≡ false
      → falls n l b ≡ false → (q : Process) → goal q ≡ Some b
      → IsNever n.version (standing n.places) l q
  no_go b at_b not_go not_falls q asks =
      go (dead (standing n.places) l) refl (has_host (standing n.places) l) refl
      (has_host (standing n.places) b) refl (dead (standing n.places) b) refl
    where
      go : (d : Bool) → dead (standing n.places) l ≡ d
          → (h : Bool) → has_host (standing n.places) l ≡ h
          → (g : Bool) → has_host (standing n.places) b ≡ g
          → (e : Bool) → dead (standing n.places) b ≡ e
          → IsNever n.version (standing n.places) l q
      go true dl h hl g hb e db = at_dead dl
      go false dl false hl g hb e db = from_root b asks there hl
      go false dl true hl true hb e db = to_hosted b asks hb
      go false dl true hl false hb false db = clash (can_go n l b) not_go
          (true_both (live (standing n.places) l && has_host (standing n.places) l)
          (live (standing n.places) b && not (has_host (standing n.places) b))
          (true_both (live (standing n.places) l) (has_host (standing n.places) l)
          (lives l there dl) hl)
          (true_both (live (standing n.places) b) (not (has_host (standing n.places) b))
          (lives b at_b db) (ap not hb)))
      go false dl true hl false hb true db = to_dead b asks db (λ is. clash (falls n l b) not_falls
          (true_both (n.version == 2) (can_fall n l b) (eq-eqb n.version 2 is)
          (true_both (live (standing n.places) l && has_host (standing n.places) l)
          ((is_there (standing n.places b) && dead (standing n.places) b)
          && not (has_host (standing n.places) b))
          (true_both (live (standing n.places) l) (has_host (standing n.places) l)
          (lives l there dl) hl)
          (true_both (is_there (standing n.places b) && dead (standing n.places) b)
          (not (has_host (standing n.places) b))
          (true_both (is_there (standing n.places b)) (dead (standing n.places) b) at_b db)
          (ap not hb)))))

  -- a live location waits for the failure of one that is there
  not_detected : (t : Loc) → is_there (standing n.places t) ≡ true → can_detect n l t ≡ false
      → (q : Process) → awaited q ≡ Some t → Rests n.version (standing n.places) l q
  not_detected t at_t none q waits =
      go (dead (standing n.places) l) refl (dead (standing n.places) t) refl
    where
      go : (d : Bool) → dead (standing n.places) l ≡ d
          → (e : Bool) → dead (standing n.places) t ≡ e
          → Rests n.version (standing n.places) l q
      go true dl e dt = inr (at_dead dl)
      go false dl false dt = inl (t, waits, dt)
      go false dl true dt = clash (can_detect n l t) none
          (true_both (live (standing n.places) l)
          (is_there (standing n.places t) && dead (standing n.places) t) (lives l there dl)
          (true_both (is_there (standing n.places t)) (dead (standing n.places) t) at_t dt))

  not_halted : live (standing n.places) l ≡ false → dead (standing n.places) l ≡ true
  not_halted none = go (dead (standing n.places) l) refl
    where
      go : (d : Bool) → dead (standing n.places) l ≡ d → d ≡ true
      go true dl = refl
      go false dl = clash (live (standing n.places) l) none (lives l there dl)

  rests_so : (i : AtomId) (q : Process) → IsSettled n.seen (IsNameOf n) l q
      → can_act n (record { id = i; loc = l; term = q }) ≡ false
      → Rests n.version (standing n.places) l q
  rests_so i (Msg x vs) s e = inr (asks_nothing refl refl refl)
  rests_so i (Par ps) s e = inr (asks_nothing refl refl refl)
  rests_so i (Def ds p) s e = inr (asks_nothing refl refl refl)
  rests_so i (Go (Binder b) k) s e = inr (asks_nothing refl refl refl)
  rests_so i (Go (Known (name.Seen j)) k) s e = inr (asks_nothing refl refl refl)
  rests_so i (Go (Known (name.Chan t j h)) k) s e = inr (asks_nothing refl refl refl)
  rests_so i (Go (Known (name.Num j)) k) s e = inr (asks_nothing refl refl refl)
  rests_so i (Go (Known (name.Op j)) k) s e = inr (asks_nothing refl refl refl)
  rests_so i (Go (Known (name.Place b)) k) s e =
      let none = no_move (can_go n l b) (falls n l b)
      (pour_at (moved n i l b) [] l (continuation k)) (moved n i l b) e in
      inr (no_go b s.0 none.0 none.1 (Go (Known (name.Place b)) k) refl)
  rests_so i (Fail (Binder b) k) s e = inr (asks_nothing refl refl refl)
  rests_so i (Fail (Known (name.Seen j)) k) s e = inr (asks_nothing refl refl refl)
  rests_so i (Fail (Known (name.Chan t j h)) k) s e = inr (asks_nothing refl refl refl)
  rests_so i (Fail (Known (name.Num j)) k) s e = inr (asks_nothing refl refl refl)
  rests_so i (Fail (Known (name.Op j)) k) s e = inr (asks_nothing refl refl refl)
  rests_so i (Fail (Known (name.Place t)) k) s e = not_detected t s.0
      (no_detection (can_detect n l t)
      (pour_at (record n { atoms = without i n.atoms }) [] l (continuation k)) e)
      (Fail (Known (name.Place t)) k) refl
  rests_so i Halt s e = inr (at_dead (not_halted (no_halt (live (standing n.places) l)
      (record n { places = with_marks l n.places; atoms = without i n.atoms }) e)))

pub rests : (n : Numbered) (a : NumberedAtom) → IsAtom n a → can_act n a ≡ false
    → Rests n.version (standing n.places) a.loc a.term
rests n a at e = rests_so n a.loc at.0 a.id a.term at.1 e
