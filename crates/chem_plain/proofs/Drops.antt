-- What is left of a list past its end, and what is then left to give, to receive and to replay.
use Rattle.std.proofs.Common.{◌≡◌, ◌<◌, ◌≤◌, ℕ, zero, suc, List, [], ◌∷◌, ◌++◌, length, get_or}
use Rattle.std.proofs.Common.{drop, drop-cons, refl, ap, sym, ◌∙◌, append_assoc, append-nil, arith}
use Rattle.std.specs.Prelude.{Option, Some, None}
use Rattle.chem_model.specs.declared.name.Loc.{Loc}
use Rattle.chem_model.specs.declared.name.Name.{Name}
use Rattle.chem_model.specs.declared.name.Pat.{Pat}
use Rattle.chem_model.specs.declared.event.AtomId.{AtomId}
use Rattle.chem_model.specs.declared.event.Event.{Event}
use Rattle.chem_model.specs.declared.numbered.NumberedAtom.{NumberedAtom}
use Rattle.chem_model.specs.declared.numbered.Numbered.{Numbered}
use Rattle.chem_model.specs.Fill.{Naming}
use Rattle.chem_model.specs.Reduction.{given}
use Rattle.chem_model.specs.Apply.{both_received, received_all, apply, replay_from}

drop_all : {X : Type 0} (xs : List X) (i : ℕ) → length xs ≤ i → drop i xs ≡ []
drop_all [] zero h = refl
drop_all [] (suc i) h = refl
drop_all (x ∷ xs) zero h = absurd (omega arith)
drop_all (x ∷ xs) (suc i) h = drop_all xs i (omega arith)

-- no name is given where no name is left
given_none : (bs : List ℕ) → given bs [] ≡ []
given_none [] = refl
given_none (b ∷ bs) = refl

pub given_end : (bs : List ℕ) (ns : List Name) (m : Naming) (i : ℕ) → length ns ≤ i
    → m ++ given (drop i bs) (drop i ns) ≡ given bs ns → m ≡ given bs ns
given_end bs ns m i e so_far =
    let nothing : given (drop i bs) (drop i ns) ≡ [] =
    ap (given (drop i bs)) (drop_all ns i e) ∙ given_none (drop i bs) in
    sym (append-nil m) ∙ (ap (λ (rest : Naming). m ++ rest) (sym nothing) ∙ so_far)

-- where one pattern received, the others follow
pub received_more : (m ms : Naming) (o : Option Naming)
    → both_received (Some m) (both_received (Some ms) o) ≡ both_received (Some (m ++ ms)) o
received_more m ms None = refl
received_more m ms (Some rest) = ap Some (sym (append_assoc m ms rest))

received_past : (atoms : List NumberedAtom) (l : Loc) (took : List AtomId) (n : ℕ) → n < length took
    → received_all atoms l [] (drop n took) ≡ None
received_past atoms l [] n h = absurd (omega arith)
received_past atoms l (i ∷ took) zero h = refl
received_past atoms l (i ∷ took) (suc n) h = received_past atoms l took n (omega arith)

-- nothing is received where more messages are taken than there are patterns
pub received_long :
    (atoms : List NumberedAtom) (l : Loc) (pats : List Pat) (took : List AtomId) (m : Naming)
    (n : ℕ) → length pats ≤ n → n < length took
    → both_received (Some m) (received_all atoms l (drop n pats) (drop n took)) ≡ None
received_long atoms l pats took m n h k =
    rw (drop_all pats n h) (ap (both_received (Some m)) (received_past atoms l took n k))

-- no event follows one that isn't possible
replay_none : (journal : List Event) → replay_from None journal ≡ None
replay_none [] = refl
replay_none (e ∷ journal) = replay_none journal

replay_stops : (n : Numbered) (journal : List Event) (i : ℕ) (e : Event) → i < length journal
    → e ≡ get_or journal i e → apply n e ≡ None → replay_from (Some n) (drop i journal) ≡ None
replay_stops n journal i e h is stops =
    let rest = drop (suc i) journal in
    ap (replay_from (Some n)) (drop-cons journal i e h)
    ∙ (ap (λ (o : Option Numbered). replay_from o rest) (ap (apply n) (sym is) ∙ stops)
    ∙ replay_none rest)

pub replay_ends : (journal events : List Event) (first n : Numbered) (i : ℕ) (e : Event)
    → events ≡ journal → i < length events → e ≡ get_or events i e → apply n e ≡ None
    → replay_from (Some n) (drop i events) ≡ replay_from (Some first) events
    → replay_from (Some first) journal ≡ None
replay_ends journal events first n i e same h is stops so_far =
    ap (replay_from (Some first)) (sym same) ∙ (sym so_far ∙ replay_stops n events i e h is stops)
