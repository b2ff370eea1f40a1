-- What holds of all that an event may make holds of what it makes.
use Rattle.std.proofs.Common.{◌≡◌, List, [], Option, Some, None, Bool, true, false, cond, refl}
use Rattle.std.proofs.Common.{subst}
use Rattle.chem_model.specs.declared.name.Loc.{Loc}
use Rattle.chem_model.specs.declared.name.Name.TheVariants as name
use Rattle.chem_model.specs.declared.name.Ref.{Ref}
use Rattle.chem_model.specs.declared.name.Ref.TheVariants.{Binder, Known}
use Rattle.chem_model.specs.declared.event.AtomId.{AtomId}
use Rattle.chem_model.specs.declared.event.RuleId.{RuleId}
use Rattle.chem_model.specs.declared.event.Event.TheVariants as event
use Rattle.chem_model.specs.declared.numbered.NumberedRule.{NumberedRule}
use Rattle.chem_model.specs.declared.numbered.NumberedAtom.{NumberedAtom}
use Rattle.chem_model.specs.declared.numbered.Numbered.{Numbered}
use Rattle.chem_model.specs.Process.{Process, Msg, Par, Def, Go, Fail, Halt}
use Rattle.chem_model.specs.Fill.{Naming}
use Rattle.chem_model.specs.Solution.{live}
use Rattle.chem_model.specs.Reduction.{continuation}
use Rattle.chem_model.specs.Numbered.{standing}
use Rattle.chem_model.specs.Pour.{pour_at}
use Rattle.chem_model.specs.Apply.{rule_at, atom_at, received_all, react_received, react_rule}
use Rattle.chem_model.specs.Apply.{without, without_all, with_marks, can_go, falls, moved, move_to}
use Rattle.chem_model.specs.Apply.{can_detect, move_atom, halt_atom, detect_atom, with_atom, apply}
use Rattle.book_store.specs.Asked.{goal}
use Rattle.book_store.proofs.ByNumber.{same_some}

-- what is left where a location is marked
abbrev pub halted : Numbered → AtomId → Loc → Numbered
halted n i l = record n { places = with_marks l n.places; atoms = without i n.atoms }

module _ (n m : Numbered) (P : Numbered → Type 0) where
  chosen : (x : Numbered) (t : Bool) → (t ≡ true → P x) → cond t (Some x) None ≡ Some m → P m
  chosen x true f e = subst P (same_some x m e) (f refl)
  chosen x false f e = cc

  -- what pours, whatever it takes
  abbrev pub Pours : Type 0
  Pours = (atoms : List NumberedAtom) (k : Naming) (l : Loc) (p : Process)
      → P (pour_at (record n { atoms = atoms }) k l p)

  -- ---- a reaction

  received_case : (r : NumberedRule) (took : List AtomId) (o : Option Naming) → Pours
      → react_received n r took o ≡ Some m → P m
  received_case r took None f e = cc
  received_case r took (Some k) f e =
      let atoms = without_all took n.atoms in
      subst P (same_some (pour_at (record n { atoms = atoms }) k r.loc r.body) m e)
      (f atoms k r.loc r.body)

  rule_case : (took : List AtomId) (o : Option NumberedRule) → Pours → react_rule n took o ≡ Some m
      → P m
  rule_case took None f e = cc
  rule_case took (Some r) f e = go (live (standing n.places) r.loc) e
    where
      go : (t : Bool)
          → cond t (react_received n r took (received_all n.atoms r.loc r.pats took)) None
          ≡ Some m → P m
      go true c = received_case r took (received_all n.atoms r.loc r.pats took) f c
      go false c = cc

  pub react_case : (i : RuleId) (took : List AtomId) → Pours → apply n (event.React i took) ≡ Some m
      → P m
  react_case i took f e = rule_case took (rule_at n.rules i) f e

  -- ---- a detection

  detect_term : (i : AtomId) (l : Loc) → Pours → (q : Process) → detect_atom n i l q ≡ Some m → P m
  detect_term i l f (Fail (Known (name.Place a)) k) e =
      let atoms = without i n.atoms in
      chosen (pour_at (record n { atoms = atoms }) [] l (continuation k)) (can_detect n l a)
      (λ t. f atoms [] l (continuation k)) e
  detect_term i l f (Fail (Binder b) k) e = cc
  detect_term i l f (Fail (Known (name.Seen x)) k) e = cc
  detect_term i l f (Fail (Known (name.Chan s x h)) k) e = cc
  detect_term i l f (Fail (Known (name.Num x)) k) e = cc
  detect_term i l f (Fail (Known (name.Op x)) k) e = cc
  detect_term i l f (Msg x vs) e = cc
  detect_term i l f (Par ps) e = cc
  detect_term i l f (Def ds p) e = cc
  detect_term i l f (Go b k) e = cc
  detect_term i l f Halt e = cc

  detect_with : (i : AtomId) (o : Option NumberedAtom) → Pours
      → with_atom o (detect_atom n i) ≡ Some m → P m
  detect_with i None f e = cc
  detect_with i (Some a) f e = detect_term i a.loc f a.term e

  pub detect_case : (i : AtomId) → Pours → apply n (event.Detect i) ≡ Some m → P m
  detect_case i f e = detect_with i (atom_at n.atoms i) f e

  -- ---- a move

  -- what the move of a request from one location to another may make
  pub record Moving (i : AtomId) (l b : Loc) : Type 0 where
    pub goes : (k : Ref) → can_go n l b ≡ true
        → P (pour_at (moved n i l b) [] l (continuation k))
    pub sinks : falls n l b ≡ true → P (moved n i l b)

  move_chosen : (i : AtomId) (l b : Loc) (k : Ref) → Moving i l b → move_to n i l k b ≡ Some m → P m
  move_chosen i l b k f e = go (can_go n l b) (f.goes k) e
    where
      go : (t : Bool) → (t ≡ true → P (pour_at (moved n i l b) [] l (continuation k)))
          → cond t (Some (pour_at (moved n i l b) [] l (continuation k)))
          (cond (falls n l b) (Some (moved n i l b)) None) ≡ Some m → P m
      go true g c =
          subst P (same_some (pour_at (moved n i l b) [] l (continuation k)) m c) (g refl)
      go false g c = chosen (moved n i l b) (falls n l b) f.sinks c

  move_term : (i : AtomId) (l b : Loc) → Moving i l b → (q : Process) → goal q ≡ Some b
      → move_atom n i l q ≡ Some m → P m
  move_term i l b f (Go (Known (name.Place a)) k) e h =
      let same : a ≡ b = cc in
      move_chosen i l b k f (subst (λ (x : Loc). move_to n i l k x ≡ Some m) same h)
  move_term i l b f (Go (Binder a) k) e h = cc
  move_term i l b f (Go (Known (name.Seen x)) k) e h = cc
  move_term i l b f (Go (Known (name.Chan s x g)) k) e h = cc
  move_term i l b f (Go (Known (name.Num x)) k) e h = cc
  move_term i l b f (Go (Known (name.Op x)) k) e h = cc
  move_term i l b f (Msg x vs) e h = cc
  move_term i l b f (Par ps) e h = cc
  move_term i l b f (Def ds p) e h = cc
  move_term i l b f (Fail a k) e h = cc
  move_term i l b f Halt e h = cc

  pub move_case : (i : AtomId) (a : NumberedAtom) (b : Loc) → atom_at n.atoms i ≡ Some a
      → goal a.term ≡ Some b → Moving i a.loc b → apply n (event.Move i) ≡ Some m → P m
  move_case i a b found leads f e = move_term i a.loc b f a.term leads
      (subst (λ (o : Option NumberedAtom). with_atom o (move_atom n i) ≡ Some m) found e)

  -- ---- a halt

  halt_term : (i : AtomId) (l : Loc) → P (halted n i l) → (q : Process) → halt_atom n i l q ≡ Some m
      → P m
  halt_term i l f Halt e = chosen (halted n i l) (live (standing n.places) l) (λ t. f) e
  halt_term i l f (Msg x vs) e = cc
  halt_term i l f (Par ps) e = cc
  halt_term i l f (Def ds p) e = cc
  halt_term i l f (Go b k) e = cc
  halt_term i l f (Fail a k) e = cc

  pub halt_case : (i : AtomId) (a : NumberedAtom) → atom_at n.atoms i ≡ Some a
      → P (halted n i a.loc) → apply n (event.Halt i) ≡ Some m → P m
  halt_case i a found f e = halt_term i a.loc f a.term
      (subst (λ (o : Option NumberedAtom). with_atom o (halt_atom n i) ≡ Some m) found e)

-- ---- what isn't possible

no_goal : (n m : Numbered) (i : AtomId) (l : Loc) (q : Process) → goal q ≡ None
    → move_atom n i l q ≡ Some m → ⊥
no_goal n m i l (Go (Known (name.Place a)) k) e h = cc
no_goal n m i l (Go (Binder a) k) e h = cc
no_goal n m i l (Go (Known (name.Seen x)) k) e h = cc
no_goal n m i l (Go (Known (name.Chan s x g)) k) e h = cc
no_goal n m i l (Go (Known (name.Num x)) k) e h = cc
no_goal n m i l (Go (Known (name.Op x)) k) e h = cc
no_goal n m i l (Msg x vs) e h = cc
no_goal n m i l (Par ps) e h = cc
no_goal n m i l (Def ds p) e h = cc
no_goal n m i l (Fail a k) e h = cc
no_goal n m i l Halt e h = cc

pub no_move : (n m : Numbered) (i : AtomId) (a : NumberedAtom) → atom_at n.atoms i ≡ Some a
    → goal a.term ≡ None → apply n (event.Move i) ≡ Some m → ⊥
no_move n m i a found none e = no_goal n m i a.loc a.term none
    (subst (λ (o : Option NumberedAtom). with_atom o (move_atom n i) ≡ Some m) found e)

pub no_mover : (n m : Numbered) (i : AtomId) → atom_at n.atoms i ≡ None
    → apply n (event.Move i) ≡ Some m → ⊥
no_mover n m i gone e =
    let wrong : None ≡ Some m =
    subst (λ (o : Option NumberedAtom). with_atom o (move_atom n i) ≡ Some m) gone e in
    cc

pub no_halter : (n m : Numbered) (i : AtomId) → atom_at n.atoms i ≡ None
    → apply n (event.Halt i) ≡ Some m → ⊥
no_halter n m i gone e =
    let wrong : None ≡ Some m =
    subst (λ (o : Option NumberedAtom). with_atom o (halt_atom n i) ≡ Some m) gone e in
    cc
