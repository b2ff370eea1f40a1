-- There is one run over links: its journal, its counts and its end.
use Rattle.std.proofs.Common.{◌≡◌, ℕ, ◌+◌, ◌<◌, List, [], ◌∷◌, Option, Some, None, length, refl}
use Rattle.std.proofs.Common.{sym, ap, subst, ◌∙◌, arith, ◌⊎◌, inl, inr}
use Rattle.chem_model.specs.declared.event.Event.{Event}
use Rattle.std.proofs.lemmas.Option.{same_Some, slice_get_within}
use Rattle.net_core.specs.declared.choice.Choice.{Choice}
use Rattle.lossy_link.specs.declared.frame.Frame.{Frame}
use Rattle.net_core.specs.declared.drained.FlightFrom.{FlightFrom}
use Rattle.lossy_link.specs.declared.line.Line.{Line}
use Rattle.lossy_link.specs.declared.step.Step.{Step}
use Rattle.lossy_link.specs.declared.step.Step.TheVariants.{Act, Send, Lose, Repeat, Arrive}
use Rattle.lossy_link.specs.Lines.{line_of}
use Rattle.lossy_link.specs.Links.{Links, Steps}
use Rattle.lossy_link.specs.Schedule as schedule
use Rattle.lossy_link.specs.declared.schedule.LinkCounts.{LinkCounts}
use Rattle.lossy_link.specs.Schedule.{both, counted, next_turn}
use Rattle.lossy_link.specs.Links.{Precedes, IsLeastOpen, NoneIsOpen}
use Rattle.lossy_link.specs.Schedule.{Turns, Runs}
use Rattle.lossy_link.proofs.OneOrder.{pairs_order}

-- one packet is the least that is open
pub record SameOpen (f t m g u n : ℕ) : Type 0 where
  pub from : f ≡ g
  pub into : t ≡ u
  pub number : m ≡ n

is_open : (ls : List Line) (f t m : ℕ) (bytes : List ℕ) → IsLeastOpen ls f t m bytes
    → (line_of f t ls).acked < length (line_of f t ls).history.sent
is_open ls f t m bytes h =
    let below = slice_get_within (line_of f t ls).history.sent m bytes h.is in
    let at = h.at in
    omega arith

pub least_one : (ls : List Line) (f t m g u n : ℕ) (xs ys : List ℕ) → IsLeastOpen ls f t m xs
    → IsLeastOpen ls g u n ys → SameOpen f t m g u n
least_one ls f t m g u n xs ys a b = go (pairs_order f t g u)
  where
    go : ((f ≡ g) × (t ≡ u)) ⊎ (Precedes f t g u ⊎ Precedes g u f t) → SameOpen f t m g u n
    go (inl h) = record {
      from = h.0;
      into = h.1;
      number = a.at ∙ ap (λ (i : ℕ). (line_of i t ls).acked) h.0
          ∙ ap (λ (i : ℕ). (line_of g i ls).acked) h.1 ∙ sym b.at;
    }
    go (inr (inl h)) =
        let one = b.least f t h in
        let two = is_open ls f t m xs a in
        absurd (omega arith)
    go (inr (inr h)) =
        let one = a.least g u h in
        let two = is_open ls g u n ys b in
        absurd (omega arith)

pub not_both : (ls : List Line) (f t m : ℕ) (bytes : List ℕ) → IsLeastOpen ls f t m bytes
    → NoneIsOpen ls → ⊥
not_both ls f t m bytes h none =
    let one = none f t in
    let two = is_open ls f t m bytes h in
    omega arith

not_bare : (l : List Frame) (x : Frame) (rest : List Frame) → l ≡ x ∷ rest → l ≡ [] → ⊥
not_bare l x rest e d = let bad : x ∷ rest ≡ [] = sym e ∙ d in cc

module _ (Net : Type 0) (Acts : Net → Choice → Event → Net → List FlightFrom → Type 0)
    (Receives : Net → ℕ → List ℕ → Net → List FlightFrom → Type 0)
    (IsNext : Net → Choice → Type 0) (Rests : Net → Type 0) (budget : ℕ)
    (Keeps : Links Net → Type 0)
    (steps_keep : (l new : Links Net) (x : Step) (o : Option Event) → Keeps l
    → Steps Net Acts Receives l x o new → Keeps new)
    (steps_one : (l a b : Links Net) (x : Step) (o p : Option Event) → Keeps l
    → Steps Net Acts Receives l x o a → Steps Net Acts Receives l x p b → (a ≡ b) × (o ≡ p))
    (next_one : (l : Links Net) (x y : Choice) → Keeps l → IsNext l.net x → IsNext l.net y → x ≡ y)
    (none_rests : (l : Links Net) (x : Choice) → Keeps l → Rests l.net → IsNext l.net x → ⊥) where
  abbrev StepsTo : Links Net → Step → Option Event → Links Net → Type 0
  StepsTo = Steps Net Acts Receives

  abbrev Turned : Links Net → ℕ → Links Net → LinkCounts → Type 0
  Turned = Turns Net Acts Receives

  abbrev Run : ℕ → ℕ → Links Net → List Event → LinkCounts → Links Net → Type 0
  Run = Runs Net Acts Receives IsNext Rests budget

  -- two steps, one after the other
  twos_one : (l a b c d : Links Net) (x y : Step) → Keeps l → StepsTo l x None a
      → StepsTo a y None b → StepsTo l x None c → StepsTo c y None d → b ≡ d
  twos_one l a b c d x y keeps one two three four =
      let first = steps_one l a c x None None keeps one three in
      let again : StepsTo a y None d =
      subst (λ (m : Links Net). StepsTo m y None d) (sym first.0) four in
      (steps_one a b d y None None (steps_keep l a x None keeps one) two again).0

  turns_keep : (l new : Links Net) (v : ℕ) (a : LinkCounts) → Keeps l → Turned l v new a → Keeps new
  turns_keep l new v a keeps (schedule.loses mid step) = steps_keep l new (Lose 0) None keeps step
  turns_keep l new v a keeps (schedule.repeats mid last one two) =
      steps_keep mid new (Arrive 0) None (steps_keep l mid (Repeat 0) None keeps one) two
  turns_keep l new v a keeps (schedule.delays mid last one two) =
      steps_keep mid new (Lose 0) None (steps_keep l mid (Repeat 0) None keeps one) two
  turns_keep l new v a keeps (schedule.arrives mid step) =
      steps_keep l new (Arrive 0) None keeps step

  turns_one : (l a b : Links Net) (v : ℕ) (m n : LinkCounts) → Keeps l → Turned l v a m
      → Turned l v b n → (a ≡ b) × (m ≡ n)
  turns_one l a b v m n keeps (schedule.loses x one) (schedule.loses y two) =
      ((steps_one l a b (Lose 0) None None keeps one two).0, refl)
  turns_one l a b v m n keeps (schedule.repeats w x one two) (schedule.repeats y z three four) =
      (twos_one l w a y b (Repeat 0) (Arrive 0) keeps one two three four, refl)
  turns_one l a b v m n keeps (schedule.delays w x one two) (schedule.delays y z three four) =
      (twos_one l w a y b (Repeat 0) (Lose 0) keeps one two three four, refl)
  turns_one l a b v m n keeps (schedule.arrives x one) (schedule.arrives y two) =
      ((steps_one l a b (Arrive 0) None None keeps one two).0, refl)

  abbrev pub Same : List Event → LinkCounts → Links Net → List Event → LinkCounts → Links Net
      → Type 0
  Same es n a ds m b = (es ≡ ds) × (n ≡ m) × (a ≡ b)

  pub runs_one : (v k : ℕ) (l a b : Links Net) (es ds : List Event) (m n : LinkCounts) → Keeps l
      → Run v k l es m a → Run v k l ds n b → Same es m a ds n b
  runs_one v k l a b es ds m n keeps (schedule.turns v1 k1 l1 mid e1 x rest es1 p q wire turn more)
      (schedule.turns v2 k2 l2 mid2 e2 x2 rest2 es2 p2 q2 wire2 turn2 more2) =
      let same = turns_one l mid mid2 v p p2 keeps turn turn2 in
      let on : Run (next_turn v) k mid ds q2 b =
      subst (λ (w : Links Net). Run (next_turn v) k w ds q2 b) (sym same.0) more2 in
      let later =
      runs_one (next_turn v) k mid a b es ds q q2 (turns_keep l mid v p keeps turn) more on in
      (later.0, λ i. both (same.1 i) (later.1 i), later.2)
  runs_one v k l a b es ds m n keeps (schedule.turns v1 k1 l1 mid e1 x rest es1 p q wire turn more)
      (schedule.sends v2 k2 l2 mid2 e2 f t j bytes es2 q2 bare least step more2) =
      absurd (not_bare l.wire x rest wire bare)
  runs_one v k l a b es ds m n keeps (schedule.turns v1 k1 l1 mid e1 x rest es1 p q wire turn more)
      (schedule.ends v2 k2 l2 bare none spent) = absurd (not_bare l.wire x rest wire bare)
  runs_one v k l a b es ds m n keeps (schedule.turns v1 k1 l1 mid e1 x rest es1 p q wire turn more)
      (schedule.rests v2 k2 l2 bare none few rest2) = absurd (not_bare l.wire x rest wire bare)
  runs_one v k l a b es ds m n keeps (schedule.turns v1 k1 l1 mid e1 x rest es1 p q wire turn more)
      (schedule.makes v2 k2 l2 mid2 e2 y e es2 q2 bare none few next step more2) =
      absurd (not_bare l.wire x rest wire bare)
  runs_one v k l a b es ds m n keeps (schedule.sends v1 k1 l1 mid e1 f t j bytes es1 q bare least
      step more) (schedule.turns v2 k2 l2 mid2 e2 x2 rest2 es2 p2 q2 wire2 turn2 more2) = absurd
      (not_bare l.wire x2 rest2 wire2 bare)
  runs_one v k l a b es ds m n keeps (schedule.sends v1 k1 l1 mid e1 f t j bytes es1 q bare least
      step more) (schedule.sends v2 k2 l2 mid2 e2 g u i bytes2 es2 q2 bare2 least2 step2 more2) =
      let same = least_one l.lines f t j g u i bytes bytes2 least least2 in
      let again : StepsTo l (Send f t j) None mid2 =
      subst (λ (w : ℕ). StepsTo l (Send w t j) None mid2) (sym same.from)
      (subst (λ (w : ℕ). StepsTo l (Send g w j) None mid2) (sym same.into)
      (subst (λ (w : ℕ). StepsTo l (Send g u w) None mid2) (sym same.number) step2)) in
      let mids = (steps_one l mid mid2 (Send f t j) None None keeps step again).0 in
      let on : Run v k mid ds q2 b =
      subst (λ (w : Links Net). Run v k w ds q2 b) (sym mids) more2 in
      let later =
      runs_one v k mid a b es ds q q2 (steps_keep l mid (Send f t j) None keeps step) more on in
      (later.0, λ i. both (counted 1 0 0 0) (later.1 i), later.2)
  runs_one v k l a b es ds m n keeps (schedule.sends v1 k1 l1 mid e1 f t j bytes es1 q bare least
      step more) (schedule.ends v2 k2 l2 bare2 none spent) = absurd
      (not_both l.lines f t j bytes least none)
  runs_one v k l a b es ds m n keeps (schedule.sends v1 k1 l1 mid e1 f t j bytes es1 q bare least
      step more) (schedule.rests v2 k2 l2 bare2 none few rest2) = absurd
      (not_both l.lines f t j bytes least none)
  runs_one v k l a b es ds m n keeps (schedule.sends v1 k1 l1 mid e1 f t j bytes es1 q bare least
      step more) (schedule.makes v2 k2 l2 mid2 e2 y e es2 q2 bare2 none few next step2 more2) =
      absurd (not_both l.lines f t j bytes least none)
  runs_one v k l a b es ds m n keeps (schedule.ends v1 k1 l1 bare none spent)
      (schedule.turns v2 k2 l2 mid2 e2 x2 rest2 es2 p2 q2 wire2 turn2 more2) =
      absurd (not_bare l.wire x2 rest2 wire2 bare)
  runs_one v k l a b es ds m n keeps (schedule.ends v1 k1 l1 bare none spent)
      (schedule.sends v2 k2 l2 mid2 e2 g u i bytes2 es2 q2 bare2 least2 step2 more2) =
      absurd (not_both l.lines g u i bytes2 least2 none)
  runs_one v k l a b es ds m n keeps (schedule.ends v1 k1 l1 bare none spent)
      (schedule.ends v2 k2 l2 bare2 none2 spent2) = (refl, refl, refl)
  runs_one v k l a b es ds m n keeps (schedule.ends v1 k1 l1 bare none spent)
      (schedule.rests v2 k2 l2 bare2 none2 few rest2) = absurd (omega arith)
  runs_one v k l a b es ds m n keeps (schedule.ends v1 k1 l1 bare none spent)
      (schedule.makes v2 k2 l2 mid2 e2 y e es2 q2 bare2 none2 few next step2 more2) =
      absurd (omega arith)
  runs_one v k l a b es ds m n keeps (schedule.rests v1 k1 l1 bare none few rest)
      (schedule.turns v2 k2 l2 mid2 e2 x2 rest2 es2 p2 q2 wire2 turn2 more2) =
      absurd (not_bare l.wire x2 rest2 wire2 bare)
  runs_one v k l a b es ds m n keeps (schedule.rests v1 k1 l1 bare none few rest)
      (schedule.sends v2 k2 l2 mid2 e2 g u i bytes2 es2 q2 bare2 least2 step2 more2) =
      absurd (not_both l.lines g u i bytes2 least2 none)
  runs_one v k l a b es ds m n keeps (schedule.rests v1 k1 l1 bare none few rest)
      (schedule.ends v2 k2 l2 bare2 none2 spent2) = absurd (omega arith)
  runs_one v k l a b es ds m n keeps (schedule.rests v1 k1 l1 bare none few rest)
      (schedule.rests v2 k2 l2 bare2 none2 few2 rest2) = (refl, refl, refl)
  runs_one v k l a b es ds m n keeps (schedule.rests v1 k1 l1 bare none few rest)
      (schedule.makes v2 k2 l2 mid2 e2 y e es2 q2 bare2 none2 few2 next step2 more2) =
      absurd (none_rests l y keeps rest next)
  runs_one v k l a b es ds m n keeps (schedule.makes v1 k1 l1 mid e1 x e es1 q bare none few next
      step more) (schedule.turns v2 k2 l2 mid2 e2 x2 rest2 es2 p2 q2 wire2 turn2 more2) = absurd
      (not_bare l.wire x2 rest2 wire2 bare)
  runs_one v k l a b es ds m n keeps (schedule.makes v1 k1 l1 mid e1 x e es1 q bare none few next
      step more) (schedule.sends v2 k2 l2 mid2 e2 g u i bytes2 es2 q2 bare2 least2 step2 more2) =
      absurd (not_both l.lines g u i bytes2 least2 none)
  runs_one v k l a b es ds m n keeps (schedule.makes v1 k1 l1 mid e1 x e es1 q bare none few next
      step more) (schedule.ends v2 k2 l2 bare2 none2 spent2) = absurd (omega arith)
  runs_one v k l a b es ds m n keeps (schedule.makes v1 k1 l1 mid e1 x e es1 q bare none few next
      step more) (schedule.rests v2 k2 l2 bare2 none2 few2 rest2) = absurd
      (none_rests l x keeps rest2 next)
  runs_one v k l a b es ds m n keeps (schedule.makes v1 k1 l1 mid e1 x e es1 q bare none few next
      step more) (schedule.makes v2 k2 l2 mid2 e2 y d es2 q2 bare2 none2 few2 next2 step2 more2) =
      let same = next_one l x y keeps next next2 in
      let again : StepsTo l (Act x) (Some d) mid2 =
      subst (λ (z : Choice). StepsTo l (Act z) (Some d) mid2) (sym same) step2 in
      let mids = steps_one l mid mid2 (Act x) (Some e) (Some d) keeps step again in
      let event : e ≡ d = same_Some e d mids.1 in
      let on : Run v (k + 1) mid es2 q2 b =
      subst (λ (w : Links Net). Run v (k + 1) w es2 q2 b) (sym mids.0) more2 in
      let later =
      runs_one v (k + 1) mid a b es1 es2 q q2 (steps_keep l mid (Act x) (Some e) keeps step)
      more on in
      (λ i. event i ∷ later.0 i, later.1, later.2)
