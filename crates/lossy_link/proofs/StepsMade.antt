-- Lists of steps that are made one after another.
use Rattle.std.proofs.Common.{◌≡◌, ℕ, ◌+◌, ◌<◌, ◌≤◌, List, [], ◌∷◌, ◌++◌, length, take, drop}
use Rattle.std.proofs.Common.{get_or}
use Rattle.std.proofs.Common.{Option, Some, None, Bool, true, false, refl, sym, ap, ◌∙◌, subst}
use Rattle.std.proofs.Common.{arith}
use Rattle.std.proofs.Common.{length-append}
use Rattle.std.specs.Prelude.{IsTrue, ◌↔◌}
use Rattle.std.proofs.lemmas.List.{take_more, drop_more, drop_all}
use Rattle.chem_model.specs.declared.event.Event.{Event}
use Rattle.chem_model.specs.Apply.{replay_from}
use Rattle.env_store.specs.CodeParts.{CodeParts}
use Rattle.net_core.specs.Making.{counted}
use Rattle.net_core.specs.Played.{Replays}
use Rattle.net_core.specs.Whole.{NetParts}
use Rattle.net_core.specs.declared.plays.Played.{Played}
use Rattle.lossy_link.specs.declared.step.Step.{Step}
use Rattle.lossy_link.specs.Links.{Links, acts, sends, loses, repeats, takes, drops, learns, stops}
use Rattle.lossy_link.specs.Links.{makes, carries}
use Rattle.lossy_link.specs.Over.{StepsTo, AllStepTo, IsEnabled}
use Rattle.lossy_link.specs.Played.{IsStuckAt, Stops, HasPlayed}
use Rattle.lossy_link.specs.Standing.{net_of_links}
use Rattle.lossy_link.specs.Whole.{IsWhole}
use Rattle.lossy_link.specs.inside.Parted.{listed, MakesMore}
use Rattle.lossy_link.proofs.Keeping.{step_leads, whole_after, whole_order}
use Rattle.lossy_link.proofs.SoFar.{IsPlaying}

-- ---- one step

-- the code stays
pub step_code : (l new : Links NetParts) (x : Step) (o : Option Event) → StepsTo l x o new
    → new.net.code ≡ l.net.code
step_code l new x o (acts y e net out h) =
    ap (λ (m : NetParts). m.code) h.handed_out.left ∙ h.code
step_code l new x o (takes i f t n bytes net out h next r) =
    ap (λ (m : NetParts). m.code) r.handed_out.left ∙ r.code
step_code l new x o (sends f t n bytes h) = refl
step_code l new x o (loses i y h) = refl
step_code l new x o (repeats i y h) = refl
step_code l new x o (drops i f t n bytes h other) = refl
step_code l new x o (learns i f t n h) = refl

-- an event is counted
pub step_events : (l new : Links NetParts) (x : Step) (o : Option Event) → StepsTo l x o new
    → new.net.events ≡ l.net.events + counted o
step_events l new x o (acts y e net out h) =
    ap (λ (m : NetParts). m.events) h.handed_out.left ∙ h.events
step_events l new x o (takes i f t n bytes net out h next r) =
    let same = ap (λ (m : NetParts). m.events) r.handed_out.left ∙ r.events in omega arith
step_events l new x o (sends f t n bytes h) = omega arith
step_events l new x o (loses i y h) = omega arith
step_events l new x o (repeats i y h) = omega arith
step_events l new x o (drops i f t n bytes h other) = omega arith
step_events l new x o (learns i f t n h) = omega arith

-- ---- all steps

all_code : (l end : Links NetParts) (xs : List Step) (es : List Event) → AllStepTo l xs es end
    → end.net.code ≡ l.net.code
all_code l end xs es (stops _) = refl
all_code l end xs es (makes _ mid _ x ys e ds one rest) =
    all_code mid end ys ds rest ∙ step_code l mid x (Some e) one
all_code l end xs es (carries _ mid _ x ys ds one rest) =
    all_code mid end ys ds rest ∙ step_code l mid x None one

pub all_whole : (l end : Links NetParts) (xs : List Step) (es : List Event) → IsWhole l
    → AllStepTo l xs es end → IsWhole end
all_whole l end xs es whole (stops _) = whole
all_whole l end xs es whole (makes _ mid _ x ys e ds one rest) =
    all_whole mid end ys ds (whole_after l mid x (Some e) whole one) rest
all_whole l end xs es whole (carries _ mid _ x ys ds one rest) =
    all_whole mid end ys ds (whole_after l mid x None whole one) rest

pub all_replay : (l end : Links NetParts) (xs : List Step) (es : List Event) → IsWhole l
    → AllStepTo l xs es end → Replays l.net.code (net_of_links l) es (net_of_links end)
all_replay l end xs es whole (stops _) p n ok is stands runs =
    record { after = n; replays = refl; stands = stands; runs = runs }
all_replay l end xs es whole (makes _ mid _ x ys e ds one rest) p n ok is stands runs =
    let step = step_leads l mid x (Some e) whole one p n ok is stands runs in
    let later = subst (λ (c : CodeParts). Replays c (net_of_links mid) ds (net_of_links end))
    (step_code l mid x (Some e) one)
    (all_replay mid end ys ds (whole_after l mid x (Some e) whole one) rest)
    p step.leads.after ok is step.leads.stands step.runs in
    record {
      after = later.after;
      replays = ap (λ o. replay_from o ds) step.leads.applies ∙ later.replays;
      stands = later.stands;
      runs = later.runs;
    }
all_replay l end xs es whole (carries _ mid _ x ys ds one rest) p n ok is stands runs =
    let step = step_leads l mid x None whole one p n ok is stands runs in
    subst (λ (c : CodeParts). Replays c (net_of_links mid) ds (net_of_links end))
    (step_code l mid x None one)
    (all_replay mid end ys ds (whole_after l mid x None whole one) rest)
    p n ok is step.leads step.runs

-- ---- one step more

one_alone : (l new : Links NetParts) (x : Step) (o : Option Event) → StepsTo l x o new
    → AllStepTo l (x ∷ []) (listed o) new
one_alone l new x None step = carries l new new x [] [] step (stops new)
one_alone l new x (Some e) step = makes l new new x [] e [] step (stops new)

one_more : (l mid new : Links NetParts) (xs : List Step) (es : List Event) (x : Step)
    (o : Option Event) → AllStepTo l xs es mid → StepsTo mid x o new
    → AllStepTo l (xs ++ x ∷ []) (es ++ listed o) new
one_more l mid new xs es x o (stops _) step = one_alone l new x o step
one_more l mid new xs es x o (makes _ next _ y ys e ds first rest) step =
    makes l next new y (ys ++ x ∷ []) e (ds ++ listed o) first
    (one_more next mid new ys ds x o rest step)
one_more l mid new xs es x o (carries _ next _ y ys ds first rest) step =
    carries l next new y (ys ++ x ∷ []) (ds ++ listed o) first
    (one_more next mid new ys ds x o rest step)

listed_length : (o : Option Event) → length (listed o) ≡ counted o
listed_length None = refl
listed_length (Some e) = refl

few_listed : (o : Option Event) → counted o ≤ 1
few_listed None = omega arith
few_listed (Some e) = omega arith

-- ---- the steps of a list in order

module _ (old : Links NetParts) (xs : List Step) where
  pub none_played : IsPlaying old xs 0 [] old
  none_played = record { made = stops old; events = omega arith; few = omega arith }

  -- the step at a place of the list
  pub more_at : (n : ℕ) (d : Step) (es more : List Event) (mid new : Links NetParts)
      → n < length xs → IsPlaying old xs n es mid → MakesMore mid es (get_or xs n d) new more
      → IsPlaying old xs (n + 1) more new
  more_at n d es more mid new below playing makes_more =
      let o = makes_more.outcome in
      let x = get_or xs n d in
      let made = one_more old mid new (take n xs) es x o playing.made makes_more.steps in
      let long : length more ≡ length es + counted o =
      ap length makes_more.events ∙ length-append es (listed o)
      ∙ ap (λ k. length es + k) (listed_length o) in
      let events = step_events mid new x o makes_more.steps in
      let before = playing.events in
      let few = playing.few in
      let one = few_listed o in
      record {
        made = subst (λ us. AllStepTo old us more new) (sym (take_more xs n d below))
            (subst (λ ds. AllStepTo old (take n xs ++ x ∷ []) ds new)
            (sym makes_more.events) made);
        events = omega arith;
        few = omega arith;
      }

  pub stuck_at : (n : ℕ) (d : Step) (new : Links NetParts) (r : Bool) → n < length xs
      → (IsTrue r ↔ IsEnabled new (get_or xs n d)) → r ≡ false → IsStuckAt new (drop n xs)
  stuck_at n d new r below tells is = record {
    next = get_or xs n d;
    rest = drop (n + 1) xs;
    is = drop_more xs n d below;
    not = λ may. let both : true ≡ false = sym (tells.1 may) ∙ is in cc;
  }

  pub none_left : (n : ℕ) → length xs ≤ n → drop n xs ≡ []
  none_left n past = drop_all n xs past

  pub all_played : (n : ℕ) (es : List Event) (new : Links NetParts) (p : Played) → IsWhole old
      → n ≤ length xs → IsPlaying old xs n es new → p.events ≡ es → p.done ≡ n
      → Stops p.stop new (drop n xs) → HasPlayed old xs p new
  all_played n es new p whole within playing events_are done_is stop =
      let made : AllStepTo old (take p.done xs) p.events new =
      subst (λ k. AllStepTo old (take k xs) p.events new) (sym done_is)
      (subst (λ ds. AllStepTo old (take n xs) ds new) (sym events_are) playing.made) in
      record {
        made = made;
        within = subst (λ k. k ≤ length xs) (sym done_is) within;
        stops = subst (λ k. Stops p.stop new (drop k xs)) (sym done_is) stop;
        code = all_code old new (take p.done xs) p.events made;
        events = playing.events ∙ ap (λ ds. old.net.events + length ds) (sym events_are);
        replays = all_replay old new (take p.done xs) p.events whole made;
        order = whole_order new (all_whole old new (take p.done xs) p.events whole made);
      }
