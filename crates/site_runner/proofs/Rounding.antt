-- The parts of a run in rounds: what was made so far is the beginning of what the schedule says.
use Rattle.std.proofs.Common.{◌≡◌, ℕ, zero, suc, ◌+◌, ◌-◌, ◌*◌, ◌^◌, ◌/◌, ◌<◌, ◌≤◌, List, [], ◌∷◌}
use Rattle.std.proofs.Common.{◌++◌, Option, Some, None, Bool, true, false, cond, refl, ap, sym, ◌∙◌}
use Rattle.std.proofs.Common.{subst, arith, length, length-append, append_assoc, append-nil, ◌⊎◌}
use Rattle.std.proofs.Common.{inl, inr, is_some, take, drop, slice_index_or, min}
use Rattle.std.specs.Prelude.{Result, Ok, Err, OnErr}
use Rattle.std.specs.List.{range_with_len}
use Rattle.chem_model.specs.declared.event.AtomId.{AtomId}
use Rattle.chem_model.specs.declared.event.Event.{Event}
use Rattle.chem_model.specs.declared.numbered.Numbered.{Numbered}
use Rattle.chem_model.specs.ProgramFacts.{ProgramTerms, IsProgram}
use Rattle.chem_model.specs.Each.{Each}
use Rattle.chem_model.specs.Numbered.{erase}
use Rattle.chem_model.specs.Reduction.{Quiet}
use Rattle.chem_model.specs.Sound.{IsSound}
use Rattle.chem_model.specs.Laws.{StuckIsQuiet}
use Rattle.chem_model.specs.Opening.{opening}
use Rattle.chem_model.specs.Apply.{apply_if, replay_from}
use Rattle.wire_packet.specs.declared.packet.Ask.{Ask}
use Rattle.wire_packet.specs.declared.packet.Ask.TheVariants as request
use Rattle.wire_packet.specs.GroupFacts.{RequestParts}
use Rattle.trace_history.specs.declared.book.Commit.{Commit}
use Rattle.trace_history.specs.declared.book.Commit.TheVariants.{Place, NotEnabled}
use Rattle.trace_history.specs.Kept.{BookKept, solution, is_enabled}
use Rattle.trace_history.specs.Book.{Commits, IsStuck, Replays}
use Rattle.trace_history.proofs.Replays.{replay_from-append, replay_sites, same_some}
use Rattle.env_store.specs.CodeParts.{CodeParts}
use Rattle.env_store.specs.CodeFacts.{IsCode}
use Rattle.env_store.specs.Reading.{IsCodeOf}
use Rattle.env_store.specs.Laws.{rules_of_group}
use Rattle.loc_tree.specs.Tree.{Tree}
use Rattle.net_laws.specs.Net.{Addressed, Net, Stands}
use Rattle.net_laws.specs.Opened.{RunsCode, opened_net}
use Rattle.net_laws.proofs.Sites.{length_made}
use Rattle.reducer.specs.declared.pick.Pick.{Pick}
use Rattle.net_core.specs.declared.choice.Choice.{Choice}
use Rattle.net_core.specs.declared.choice.Choice.TheVariants as choice
use Rattle.net_core.specs.Acts.{Acts}
use Rattle.net_core.specs.Acts as acts
use Rattle.net_core.specs.Asking.{choice_by, choices_for, asks}
use Rattle.net_core.specs.Choosing.{Allows, IsNext, NoneMeetsAny}
use Rattle.net_core.specs.Falling.{is_misdirected, misdirected, deliveries_left}
use Rattle.net_core.specs.Laws.{IsLed}
use Rattle.net_core.specs.Making.{Falls, HasActed}
use Rattle.net_core.specs.Playing.{IsPlayed}
use Rattle.net_core.specs.Scheduling.{IsReadyAt, births_of, InTurn, spent, no_more, passes, makes}
use Rattle.net_core.specs.Scheduling.{Opens, ReadyOpensNone, Meets, Forbids, numbers, IsRound}
use Rattle.net_core.specs.Scheduling.{GoesOn, all_spent, none_enabled, commits, carries, AreRounds}
use Rattle.net_core.specs.Scheduling.{few_left, last_round, one_round, AreTurns}
use Rattle.net_core.specs.Whole.{NetParts}
use Rattle.net_core.specs.Working.{HasWorked}
use Rattle.net_core.proofs.Enabling.{none_enabled_is_quiet}
use Rattle.net_core.proofs.Ending.{rounds_end, not_enabled}
use Rattle.net_core.proofs.Picking.{IsFine}
use Rattle.net_core.proofs.SomeSchedule.{idle_round}
use Rattle.site_runner.specs.Rounds.{StandForOne, RunsInRounds, RoundsOf}
use Rattle.site_runner.specs.inside.RoundParts.{events_of, and_then, AreOne, IsMade, HaveRun}
use Rattle.site_runner.specs.inside.RoundParts.{HasTurn, made, passed, MeetsRequest, CanFollow}

-- ---- books with more events

abbrev book_of : ProgramTerms → List Event → BookKept
book_of p es = record { program = p; journal = es }

pub and_then_twice : (b : BookKept) (xs ys : List Event)
    → and_then (and_then b xs) ys ≡ and_then b (xs ++ ys)
and_then_twice b xs ys = ap (book_of b.program) (append_assoc b.journal xs ys)

pub and_then_none : (b : BookKept) → and_then b [] ≡ b
and_then_none b = ap (book_of b.program) (append-nil b.journal)

pub longer : (b after : BookKept) (es : List Event) → after ≡ and_then b es
    → length after.journal ≡ length b.journal + length es
longer b after es is = ap (λ (x : BookKept). length x.journal) is ∙ length-append b.journal es

same_length : (b after : BookKept) → after ≡ and_then b [] → length after.journal ≡ length b.journal
same_length b after is = ap (λ (x : BookKept). length x.journal) (is ∙ and_then_none b)

-- where an event is left now, one was left before
pub was_left : (budget : ℕ) (book0 book : BookKept) (added : List Event)
    → book ≡ and_then book0 added → length book.journal < budget → length book0.journal < budget
was_left budget book0 book added is low = let long = longer book0 book added is in omega arith

pub on_err : {X Y P : Type 0} (o : Result X Y) → P → OnErr o P
on_err (Ok x) h = tt
on_err (Err y) h = h

-- what is said of a failure, from what is said of it in other words
pub on_err_so : {X Y P Q : Type 0} (o : Result X Y) → (P → Q) → OnErr o P → OnErr o Q
on_err_so (Ok x) so h = tt
on_err_so (Err y) so h = so h

-- ---- lists from the front

pub item_splits : {X : Type 0} (i : ℕ) (xs : List X) (d : X) → i < length xs
    → (drop i xs ≡ slice_index_or xs i d ∷ drop (i + 1) xs)
    × (take (i + 1) xs ≡ take i xs ++ slice_index_or xs i d ∷ [])
item_splits i [] d lt = absurd (omega arith)
item_splits zero (x ∷ xs) d lt = (refl, refl)
item_splits (suc i) (x ∷ xs) d lt =
    let one : suc i + 1 ≡ suc (i + 1) = omega arith in
    let more = item_splits i xs d (omega arith) in (
      more.0 ∙ ap (λ k. slice_index_or xs i d ∷ drop k (x ∷ xs)) (sym one),
      ap (λ k. take k (x ∷ xs)) one ∙ ap (λ ys. x ∷ ys) more.1,
    )

pub each_at : {X : Type 0} (P : X → Type 0) (xs : List X) (i : ℕ) (d : X) → Each P xs
    → i < length xs → P (slice_index_or xs i d)
each_at P [] i d h lt = absurd (omega arith)
each_at P (x ∷ xs) zero d h lt = h.0
each_at P (x ∷ xs) (suc i) d h lt = each_at P xs i d h.1 (omega arith)

pub none_after : {X : Type 0} (i : ℕ) (xs : List X) → length xs ≤ i → drop i xs ≡ []
none_after i [] h = drop_nil i
  where
    drop_nil : {X : Type 0} (i : ℕ) → drop {A = X} i [] ≡ []
    drop_nil zero = refl
    drop_nil (suc i) = refl
none_after zero (x ∷ xs) h = absurd (omega arith)
none_after (suc i) (x ∷ xs) h = none_after i xs (omega arith)

-- ---- a book and a network that stand for one solution

pub fine : (b : BookKept) (net : NetParts) → AreOne b net → IsFine b.program net.code net.net
fine b net o = record { solution = o.last; stands = o.stands; runs = o.runs }

pub site_count : (b : BookKept) (net : NetParts) → AreOne b net
    → length net.net.sites ≡ length b.program.sites
site_count b net o = sym (length_made net.net.sites) ∙ ap length (sym o.stands.agrees.counts)
    ∙ replay_sites b.program b.journal o.last o.leads

pub some_sites : (b : BookKept) (net : NetParts) → AreOne b net → 0 < length net.net.sites
some_sites b net o =
    let count = site_count b net o in
    let some = o.is_program.some_site in
    omega arith

-- the number of sites stays
pub same_sites : (b after : BookKept) (net new : NetParts) (es : List Event) → AreOne b net
    → after ≡ and_then b es → AreOne after new → length net.net.sites ≡ length new.net.sites
same_sites b after net new es o is m = site_count b net o
    ∙ ap (λ (x : BookKept). length x.program.sites) (sym is) ∙ sym (site_count after new m)

pub as_one : (b : BookKept) (net : NetParts) → StandForOne b net → Replays b → IsProgram b.program
    → IsCode net.code → AreOne b net
as_one b net o r p c = record {
  is_program = p;
  is_code = c;
  of_program = o.of_program;
  last = r.0;
  leads = r.1;
  stands = o.stand r.0 r.1;
  runs = o.runs;
  counted = o.counted;
}

-- with more events
pub one_after :
    (b after : BookKept) (net new : NetParts) (es : List Event) (n : Numbered) (o : AreOne b net)
    → after ≡ and_then b es → new.code ≡ net.code → replay_from (Some o.last) es ≡ Some n
    → Stands (rules_of_group b.program) new.net n → RunsCode b.program net.code new.net
    → new.events ≡ net.events + length es → AreOne after new
one_after b after net new es n o is code leads stands runs events =
    subst (λ (x : BookKept). AreOne x new) (sym is) more
  where
    more : AreOne (and_then b es) new
    more = record {
      is_program = o.is_program;
      is_code = subst IsCode (sym code) o.is_code;
      of_program = subst (IsCodeOf b.program) (sym code) o.of_program;
      last = n;
      leads = replay_from-append (Some (opening b.program)) b.journal es
          ∙ ap (λ (x : Option Numbered). replay_from x es) o.leads ∙ leads;
      stands = stands;
      runs = subst (λ (c : CodeParts). RunsCode b.program c new.net) (sym code) runs;
      counted = omega (arith, events, o.counted, length-append b.journal es);
    }

-- ---- one choice

module _ (net new : NetParts) (b after : BookKept) (x : Choice) (o : AreOne b net)
    (few : length new.net.packets < 2 ^ 32) where
  pub made_some : (e : Event) (k : Commit) → HasActed net x (Some e) new → Commits b e k after
      → IsMade net b x new after
  made_some e k h c = go k c
    where
      led : IsLed b.program net.code o.last (Some e) new.net
      led = h.leads b.program o.last o.is_program o.of_program o.stands o.runs

      go : (k : Commit) → Commits b e k after → IsMade net b x new after
      go (Place place) c = record {
        event = Some e;
        acts = h.acts;
        falls = h.falls;
        few = few;
        code = h.code;
        book_is = c.2;
        one = one_after b after net new (e ∷ []) led.leads.after o
            c.2 h.code led.leads.applies led.leads.stands led.runs h.events;
      }
      go NotEnabled c =
          let possible : is_enabled b e ≡ true =
          ap (λ (n : Option Numbered). is_some (apply_if n e)) o.leads
          ∙ ap (λ (n : Option Numbered). is_some n) led.leads.applies in
          let not = c.0 in
          absurd (let clash : true ≡ false = sym possible ∙ not in cc)

  pub made_none : HasActed net x None new → after ≡ b → IsMade net b x new after
  made_none h is =
      let led : IsLed b.program net.code o.last None new.net =
      h.leads b.program o.last o.is_program o.of_program o.stands o.runs in
      let book : after ≡ and_then b [] = is ∙ sym (and_then_none b) in
      record {
        event = None;
        acts = h.acts;
        falls = h.falls;
        few = few;
        code = h.code;
        book_is = book;
        one = one_after b after net new [] o.last o book h.code refl led.leads led.runs h.events;
      }

-- ---- on the way

-- what the rest says makes what all of it says
pub record OnItsWay (All Rest : List Event → Net → Type 0) (net0 : NetParts) (book0 : BookKept)
    (net : NetParts) (book : BookKept) : Type 0 where
  pub added : List Event
  pub code : net.code ≡ net0.code
  pub book_is : book ≡ and_then book0 added
  pub one : AreOne book net
  pub so_far : (es : List Event) (end : Net) → Rest es end → All (added ++ es) end

pub begins : (All : List Event → Net → Type 0) (net : NetParts) (book : BookKept) → AreOne book net
    → OnItsWay All All net book net book
begins All net book o = record {
  added = [];
  code = refl;
  book_is = sym (and_then_none book);
  one = o;
  so_far = λ es end h. h;
}

module _ (All Rest : List Event → Net → Type 0) (net0 : NetParts) (book0 : BookKept)
    (net new : NetParts) (book after : BookKept) (g : OnItsWay All Rest net0 book0 net book) where
  pub goes : (Later : List Event → Net → Type 0) (more : List Event) → new.code ≡ net.code
      → after ≡ and_then book more → AreOne after new
      → ((es : List Event) (end : Net) → Later es end → Rest (more ++ es) end)
      → OnItsWay All Later net0 book0 new after
  goes Later more code is o step = record {
    added = g.added ++ more;
    code = code ∙ g.code;
    book_is =
        is ∙ ap (λ (x : BookKept). and_then x more) g.book_is ∙ and_then_twice book0 g.added more;
    one = o;
    so_far = λ es end h. subst (λ (xs : List Event). All xs end)
        (sym (append_assoc g.added more es)) (g.so_far (more ++ es) end (step es end h));
  }

  pub ends_with : (more : List Event) → new.code ≡ net.code → after ≡ and_then book more
      → AreOne after new → Rest more new.net → HaveRun All net0 book0 new after
  ends_with more code is o h = record {
    added = g.added ++ more;
    runs = g.so_far more new.net h;
    code = code ∙ g.code;
    book_is =
        is ∙ ap (λ (x : BookKept). and_then x more) g.book_is ∙ and_then_twice book0 g.added more;
    one = o;
  }

pub ends :
    (All Rest : List Event → Net → Type 0) (net0 : NetParts) (book0 : BookKept) (net : NetParts)
    (book : BookKept) → OnItsWay All Rest net0 book0 net book → Rest [] net.net
    → HaveRun All net0 book0 net book
ends All Rest net0 book0 net book g h = record {
  added = g.added;
  runs = subst (λ (xs : List Event). All xs net.net) (append-nil g.added) (g.so_far [] net.net h);
  code = g.code;
  book_is = g.book_is;
  one = g.one;
}

-- ---- what falls

misdirected_le : (t : Tree) (ps : List Addressed) → misdirected t ps ≤ length ps
misdirected_le t [] = omega arith
misdirected_le t (q ∷ ps) = go (is_misdirected t q) (misdirected_le t ps)
  where
    go : (b : Bool) → misdirected t ps ≤ length ps → cond b 1 0 + misdirected t ps ≤ length (q ∷ ps)
    go true h = omega arith
    go false h = omega arith

light : (net : Net) → length net.packets < 2 ^ 32 → deliveries_left net < 2 ^ 33
light net few = let low = misdirected_le net.tree net.packets in omega arith

-- ---- one choice after another

abbrev pub Goes : ℕ → CodeParts → NetParts → BookKept → List Event → Net → Type 0
Goes budget c net book = GoesOn c (budget - length book.journal) net.net

module _ (budget : ℕ) (net new : NetParts) (book after : BookKept) (x : Choice)
    (low : length book.journal < budget) (m : IsMade net book x new after) where
  -- the next choice
  goes_step : (c : CodeParts) → net.code ≡ c → IsNext net.code net.net x
      → (es : List Event) (end : Net) → Goes budget c new after es end
      → Goes budget c net book (events_of m.event ++ es) end
  goes_step c code next es end = go m.event m.acts m.book_is
    where
      first : IsNext c net.net x
      first = subst (λ (d : CodeParts). IsNext d net.net x) code next

      go : (o : Option Event) → Acts net.code net.net x o new.net
          → after ≡ and_then book (events_of o) → Goes budget c new after es end
          → Goes budget c net book (events_of o ++ es) end
      go None a is h =
          let same : budget - length after.journal ≡ budget - length book.journal =
          ap (λ (k : ℕ). budget - k) (same_length book after is) in
          carries (budget - length book.journal) net.net new.net end x es (omega arith) first
          (subst (λ (d : CodeParts). Acts d net.net x None new.net) code a)
          (subst (λ (k : ℕ). GoesOn c k new.net es end) same h)
      go (Some e) a is h =
          let long : length after.journal ≡ length book.journal + 1 =
          longer book after (e ∷ []) is in
          let one : budget - length after.journal ≡ budget - length book.journal - 1 =
          omega arith in
          commits (budget - length book.journal) net.net new.net end x e es (omega arith) first
          (subst (λ (d : CodeParts). Acts d net.net x (Some e) new.net) code a)
          (subst (λ (k : ℕ). GoesOn c k new.net es end) one h)

  pub goes_on : (net0 : NetParts) (book0 : BookKept)
      → OnItsWay (Goes budget net0.code net0 book0) (Goes budget net0.code net book) net0 book0 net
      book → IsNext net.code net.net x
      → OnItsWay (Goes budget net0.code net0 book0) (Goes budget net0.code new after) net0 book0 new
      after
  goes_on net0 book0 g next =
      goes (Goes budget net0.code net0 book0) (Goes budget net0.code net book) net0 book0 net new
      book after g (Goes budget net0.code new after) (events_of m.event)
      m.code m.book_is m.one (goes_step net0.code g.code next)

  pub made_within : length after.journal ≤ budget
  made_within = go m.event m.book_is
    where
      go : (o : Option Event) → after ≡ and_then book (events_of o) → length after.journal ≤ budget
      go None is = let same = same_length book after is in omega arith
      go (Some e) is =
          let long : length after.journal ≡ length book.journal + 1 =
          longer book after (e ∷ []) is in
          omega arith

  -- an event uses up budget, and a delivery leaves one delivery less
  pub falls :
      (budget - length after.journal) * 2 ^ 33 + deliveries_left new.net
      < (budget - length book.journal) * 2 ^ 33 + deliveries_left net.net
  falls = go m.event m.book_is m.falls
    where
      go : (o : Option Event) → after ≡ and_then book (events_of o) → Falls net.net o new.net
          → (budget - length after.journal) * 2 ^ 33 + deliveries_left new.net
          < (budget - length book.journal) * 2 ^ 33 + deliveries_left net.net
      go None is fall =
          let left : budget - length after.journal ≡ budget - length book.journal =
          ap (λ (k : ℕ). budget - k) (same_length book after is) in
          subst (λ (k : ℕ). k * 2 ^ 33 + deliveries_left new.net
          < (budget - length book.journal) * 2 ^ 33 + deliveries_left net.net) (sym left)
          (omega arith)
      go (Some e) is fall =
          let long : length after.journal ≡ length book.journal + 1 =
          longer book after (e ∷ []) is in
          let few = light new.net m.few in
          omega arith

-- as the loop keeps it
abbrev pub GoesWay : ℕ → NetParts → BookKept → NetParts → BookKept → Type 0
GoesWay budget net0 book0 net book =
    OnItsWay (Goes budget net0.code net0 book0) (Goes budget net0.code net book) net0 book0 net book

pub goes_spent : (budget : ℕ) (net0 net : NetParts) (book0 book : BookKept)
    → GoesWay budget net0 book0 net book → budget ≤ length book.journal
    → HaveRun (Goes budget net0.code net0 book0) net0 book0 net book
goes_spent budget net0 net book0 book g h =
    ends (Goes budget net0.code net0 book0) (Goes budget net0.code net book) net0 book0 net book g
    (go (budget - length book.journal) (omega arith))
  where
    go : (k : ℕ) → k ≡ 0 → GoesOn net0.code k net.net [] net.net
    go k e = subst (λ (i : ℕ). GoesOn net0.code i net.net [] net.net) (sym e) (all_spent net.net)

pub goes_rest : (budget : ℕ) (net0 net : NetParts) (book0 book : BookKept)
    → GoesWay budget net0 book0 net book → ((x : Choice) → Allows net.code net.net x → ⊥)
    → HaveRun (Goes budget net0.code net0 book0) net0 book0 net book
goes_rest budget net0 net book0 book g none =
    ends (Goes budget net0.code net0 book0) (Goes budget net0.code net book) net0 book0 net book g
    (none_enabled (budget - length book.journal)
    net.net (subst (λ (d : CodeParts). (x : Choice) → Allows d net.net x → ⊥) g.code none))

-- ---- what is made in turn

module _ {X : Type 0} (Makes : CodeParts → Net → X → Event → Net → Type 0)
    (Passes : CodeParts → Net → X → Type 0) where
  abbrev pub Turns : ℕ → CodeParts → List X → NetParts → BookKept → List Event → Net → Type 0
  Turns budget c xs net book = InTurn (Makes c) (Passes c) (budget - length book.journal) xs net.net

  abbrev pub Turn : NetParts → X → List Event → Net → Type 0
  Turn net x = HasTurn (Makes net.code) (Passes net.code) net.net x

  -- as the loop keeps it
  abbrev pub TurnsWay : ℕ → List X → NetParts → BookKept → List X → NetParts → BookKept → Type 0
  TurnsWay budget all net0 book0 xs net book = OnItsWay (Turns budget net0.code all net0 book0)
      (Turns budget net0.code xs net book) net0 book0 net book

  module _ (budget : ℕ) (net new : NetParts) (book after : BookKept) (x : X) (xs : List X)
      (low : length book.journal < budget) (r : HaveRun (Turn net x) net book new after) where
    turn_step : (c : CodeParts) → net.code ≡ c → (es : List Event) (end : Net)
        → Turns budget c xs new after es end → Turns budget c (x ∷ xs) net book (r.added ++ es) end
    turn_step c code es end h = go r.added new.net r.runs r.book_is h
      where
        go : (more : List Event) (m : Net) → Turn net x more m → after ≡ and_then book more
            → InTurn (Makes c) (Passes c) (budget - length after.journal) xs m es end
            → Turns budget c (x ∷ xs) net book (more ++ es) end
        go more m (made e _ done) is h =
            let long : length after.journal ≡ length book.journal + 1 =
            longer book after (e ∷ []) is in
            let one : budget - length after.journal ≡ budget - length book.journal - 1 =
            omega arith in
            makes (budget - length book.journal) x xs net.net m end e es (omega arith)
            (subst (λ (d : CodeParts). Makes d net.net x e m) code done)
            (subst (λ (k : ℕ). InTurn (Makes c) (Passes c) k xs m es end) one h)
        go more m (passed by) is h =
            let same : budget - length after.journal ≡ budget - length book.journal =
            ap (λ (k : ℕ). budget - k) (same_length book after is) in
            passes (budget - length book.journal) x xs net.net end es (omega arith)
            (subst (λ (d : CodeParts). Passes d net.net x) code by)
            (subst (λ (k : ℕ). InTurn (Makes c) (Passes c) k xs net.net es end) same h)

    pub turn_within : length after.journal ≤ budget
    turn_within = go r.added new.net r.runs r.book_is
      where
        go : (more : List Event) (m : Net) → Turn net x more m → after ≡ and_then book more
            → length after.journal ≤ budget
        go more m (made e _ done) is =
            let long : length after.journal ≡ length book.journal + 1 =
            longer book after (e ∷ []) is in
            omega arith
        go more m (passed by) is = let same = same_length book after is in omega arith

    pub turn_goes : (all : List X) (net0 : NetParts) (book0 : BookKept)
        → TurnsWay budget all net0 book0 (x ∷ xs) net book
        → TurnsWay budget all net0 book0 xs new after
    turn_goes all net0 book0 g =
        goes (Turns budget net0.code all net0 book0) (Turns budget net0.code (x ∷ xs) net book) net0
        book0 net new book after g (Turns budget net0.code xs new after)
        r.added r.code r.book_is r.one (turn_step net0.code g.code)

  -- the turn of the one at this place
  pub turn_at :
      (budget : ℕ) (net new : NetParts) (book after : BookKept) (items : List X) (i : ℕ) (d : X)
      → i < length items → length book.journal < budget
      → HaveRun (Turn net (slice_index_or items i d)) net book new after
      → (all : List X) (net0 : NetParts) (book0 : BookKept)
      → TurnsWay budget all net0 book0 (drop i items) net book
      → TurnsWay budget all net0 book0 (drop (i + 1) items) new after
  turn_at budget net new book after items i d less low r all net0 book0 g =
      turn_goes budget net new book after (slice_index_or items i d) (drop (i + 1) items) low r all
      net0 book0
      (subst (λ (xs : List X). TurnsWay budget all net0 book0 xs net book)
      (item_splits i items d less).0 g)

  pub turn_at_within : (budget : ℕ) (net new : NetParts) (book after : BookKept) (x : X)
      → length book.journal < budget → HaveRun (Turn net x) net book new after
      → length after.journal ≤ budget
  turn_at_within budget net new book after x low r =
      turn_within budget net new book after x [] low r

  pub turns_spent : (budget : ℕ) (all xs : List X) (net0 net : NetParts) (book0 book : BookKept)
      → TurnsWay budget all net0 book0 xs net book → budget ≤ length book.journal
      → HaveRun (Turns budget net0.code all net0 book0) net0 book0 net book
  turns_spent budget all xs net0 net book0 book g h =
      ends (Turns budget net0.code all net0 book0) (Turns budget net0.code xs net book) net0 book0
      net book g (go (budget - length book.journal) (omega arith))
    where
      go : (k : ℕ) → k ≡ 0 → InTurn (Makes net0.code) (Passes net0.code) k xs net.net [] net.net
      go k e =
          subst (λ (i : ℕ). InTurn (Makes net0.code) (Passes net0.code) i xs net.net [] net.net)
          (sym e) (spent xs net.net)

  pub turns_over : (budget : ℕ) (all xs : List X) (net0 net : NetParts) (book0 book : BookKept)
      → TurnsWay budget all net0 book0 xs net book → xs ≡ []
      → HaveRun (Turns budget net0.code all net0 book0) net0 book0 net book
  turns_over budget all xs net0 net book0 book g e =
      ends (Turns budget net0.code all net0 book0) (Turns budget net0.code xs net book) net0 book0
      net book g
      (subst (λ (ys : List X). InTurn (Makes net0.code) (Passes net0.code)
      (budget - length book.journal) ys net.net [] net.net) (sym e)
      (no_more (budget - length book.journal) net.net))

pub no_turn : {X : Type 0} (Makes : CodeParts → Net → X → Event → Net → Type 0)
    (Passes : CodeParts → Net → X → Type 0) (net : NetParts) (book : BookKept) (x : X)
    → AreOne book net → Passes net.code net.net x
    → HaveRun (Turn Makes Passes net x) net book net book
no_turn Makes Passes net book x o by = record {
  added = [];
  runs = passed by;
  code = refl;
  book_is = sym (and_then_none book);
  one = o;
}

-- all of a list are passed by
pub all_passed : {X : Type 0} (Makes : CodeParts → Net → X → Event → Net → Type 0)
    (Passes : CodeParts → Net → X → Type 0) (budget : ℕ) (xs : List X) (net : NetParts)
    (book : BookKept) → AreOne book net → Each (Passes net.code net.net) xs
    → HaveRun (Turns Makes Passes budget net.code xs net book) net book net book
all_passed {X = X} Makes Passes budget xs net book o by = record {
  added = [];
  runs = go (budget - length book.journal) xs by;
  code = refl;
  book_is = sym (and_then_none book);
  one = o;
}
  where
    go : (left : ℕ) (ys : List X) → Each (Passes net.code net.net) ys
        → InTurn (Makes net.code) (Passes net.code) left ys net.net [] net.net
    go zero ys each = spent ys net.net
    go (suc left) [] each = no_more (suc left) net.net
    go (suc left) (y ∷ ys) each =
        passes (suc left) y ys net.net net.net [] (omega arith) each.0 (go (suc left) ys each.1)

-- ---- the reactions that open locations, and the requests

module _ (net new : NetParts) (book after : BookKept) (x : Choice)
    (m : IsMade net book x new after) where
  pub opens_turn : (i : ℕ) (q : Pick) → x ≡ choice.React i q → IsReadyAt net.code net.net i q
      → 0 < births_of net.code q → HaveRun (Turn Opens ReadyOpensNone net i) net book new after
  opens_turn i q is ready some =
      go m.event (subst (λ (y : Choice). Acts net.code net.net y m.event new.net) is m.acts)
      m.book_is
    where
      go : (o : Option Event) → Acts net.code net.net (choice.React i q) o new.net
          → after ≡ and_then book (events_of o)
          → HaveRun (Turn Opens ReadyOpensNone net i) net book new after
      go o (acts.react _ _ e _ h) b = record {
        added = e ∷ [];
        runs = made e new.net (record { pick = q; ready = ready; some = some; reacts = h });
        code = m.code;
        book_is = b;
        one = m.one;
      }

  pub meets_turn : MeetsRequest x → HaveRun (Turn Meets Forbids net x) net book new after
  meets_turn meets = go m.event m.acts m.book_is
    where
      not_none : (y : Choice) → MeetsRequest y → Acts net.code net.net y None new.net → ⊥
      not_none y r (acts.deliver f _ h) = r

      go : (o : Option Event) → Acts net.code net.net x o new.net
          → after ≡ and_then book (events_of o)
          → HaveRun (Turn Meets Forbids net x) net book new after
      go None a b = absurd (not_none x meets a)
      go (Some e) a b = record {
        added = e ∷ [];
        runs = made e new.net a;
        code = m.code;
        book_is = b;
        one = m.one;
      }

pub are_requests : (qs : List RequestParts) → Each MeetsRequest (choices_for qs)
are_requests [] = tt
are_requests (q ∷ qs) = (go q.ask q.id, are_requests qs)
  where
    go : (k : Ask) (a : AtomId) → MeetsRequest (choice_by k a)
    go (request.Go b k) a = tt
    go (request.Fail b k) a = tt
    go request.Halt a = tt

-- none of them is met, where no request may be
pub none_meets : (c : CodeParts) (net : Net) → NoneMeetsAny c net → (qs : List RequestParts)
    → Each (Forbids c net) (choices_for qs)
none_meets c net none [] = tt
none_meets c net none (q ∷ qs) = (go q.ask q.id, none_meets c net none qs)
  where
    go : (k : Ask) (a : AtomId) → Forbids c net (choice_by k a)
    go (request.Go b k) a = none (choice.Move a) a refl
    go (request.Fail b k) a = none (choice.Detect a) a refl
    go request.Halt a = none (choice.Halt a) a refl

-- ---- events that are committed one after another

none_stays : (es : List Event) (m : Numbered) → replay_from None es ≡ Some m → ⊥
none_stays [] m e = cc
none_stays (x ∷ es) m e = none_stays es m e

commit_next : (book after : BookKept) (e : Event) (rest : List Event) (k : Commit)
    → CanFollow book (e ∷ rest) → Commits book e k after
    → (after ≡ and_then book (e ∷ [])) × CanFollow after rest
commit_next book after e rest (Place p) can h = (
  h.2,
  record {
    after = can.after;
    replays = ap (λ (b : BookKept). replay_from (solution b) rest) h.2
        ∙ ap (λ (o : Option Numbered). replay_from o rest)
        (replay_from-append (Some (opening book.program)) book.journal (e ∷ [])) ∙ can.replays;
  },
)
commit_next book after e rest NotEnabled can h =
    absurd (go (apply_if (solution book) e) refl can.replays)
  where
    go : (o : Option Numbered) → apply_if (solution book) e ≡ o
        → replay_from o rest ≡ Some can.after → ⊥
    go None c f = none_stays rest can.after f
    go (Some n) c f =
        let not = h.0 in
        let is : is_enabled book e ≡ true = ap (λ o. is_some o) c in
        let clash : true ≡ false = sym is ∙ not in
        cc

pub commit_item :
    (book0 book after : BookKept) (e : Event) (events : List Event) (i : ℕ) (k : Commit)
    → book ≡ and_then book0 (take i events) → CanFollow book (drop i events) → i < length events
    → e ≡ slice_index_or events i e → Commits book e k after
    → (after ≡ and_then book0 (take (i + 1) events)) × CanFollow after (drop (i + 1) events)
commit_item book0 book after e events i k is can lt at h =
    let parts = item_splits i events e lt in
    let here : drop i events ≡ e ∷ drop (i + 1) events =
    parts.0 ∙ ap (λ x. x ∷ drop (i + 1) events) (sym at) in
    let next =
    commit_next book after e (drop (i + 1) events) k (subst (CanFollow book) here can) h in (
      next.0 ∙ ap (λ (b : BookKept). and_then b (e ∷ [])) is
          ∙ and_then_twice book0 (take i events) (e ∷ [])
          ∙ ap (λ xs. and_then book0 (take i events ++ xs)) (ap (λ x. x ∷ []) at)
          ∙ ap (and_then book0) (sym parts.1),
      next.1,
    )

-- ---- a round

module _ (net new : NetParts) (book : BookKept) (quota : ℕ) (es : List Event) (o : AreOne book net)
    (h : HasWorked quota net es new) where
  worked : IsPlayed book.program net.code o.last es new.net
  worked = h.replays book.program o.last o.is_program o.of_program o.stands o.runs

  pub work_follows : CanFollow book es
  work_follows = record {
    after = worked.after;
    replays = ap (λ (n : Option Numbered). replay_from n es) o.leads ∙ worked.replays;
  }

  pub work_one : (after : BookKept) → after ≡ and_then book es → AreOne after new
  work_one after is = one_after book after net new es worked.after o is
      h.code worked.replays worked.stands worked.runs h.events

pub round_joins :
    (budget quota : ℕ) (net0 net1 net2 net3 : NetParts) (book0 book1 book2 book3 : BookKept)
    (es : List Event)
    → AreOne book0 net0 → quota ≡ min 64 ((budget - length book0.journal) / length net0.net.sites)
    → HasWorked quota net0 es net1 → book1 ≡ and_then book0 es → AreOne book1 net1
    → HaveRun (Turns Opens ReadyOpensNone budget net1.code (numbers net1.net) net1 book1) net1 book1
    net2 book2
    → HaveRun (Turns Meets Forbids budget net2.code (asks net2.net) net2 book2) net2 book2 net3
    book3
    → HaveRun (IsRound net0.code (budget - length book0.journal) net0.net) net0 book0 net3 book3
round_joins budget quota net0 net1 net2 net3 book0 book1 book2 book3 es one0 share work is1 one1
    opens meets = record {
      added = es ++ (opens.added ++ meets.added);
      runs = record {
        worked = es;
        after_work = net1.net;
        turns = subst (λ (k : ℕ).
            AreTurns net0.code k (numbers net0.net) (length net0.net.packets) net0.net es net1.net)
            share work.turns;
        opened = opens.added;
        after_opening = net2.net;
        opens = opened;
        asked = meets.added;
        meets = met;
        events = refl;
      };
      code = meets.code ∙ opens.code ∙ work.code;
      book_is = meets.book_is ∙ ap (λ (b : BookKept). and_then b meets.added) opens.book_is
          ∙ and_then_twice book1 opens.added meets.added
          ∙ ap (λ (b : BookKept). and_then b (opens.added ++ meets.added)) is1
          ∙ and_then_twice book0 es (opens.added ++ meets.added);
      one = meets.one;
    }
  where
    counts : length net1.net.sites ≡ length net0.net.sites
    counts = sym (same_sites book0 book1 net0 net1 es one0 is1 one1)

    left1 : budget - length book1.journal ≡ budget - length book0.journal - length es
    left1 = let long = longer book0 book1 es is1 in omega arith

    left2 :
        budget - length book2.journal
        ≡ budget - length book0.journal - length es - length opens.added
    left2 =
        let long = longer book0 book1 es is1 in
        let more = longer book1 book2 opens.added opens.book_is in
        omega arith

    opened :
        InTurn (Opens net0.code) (ReadyOpensNone net0.code)
        (budget - length book0.journal - length es) (numbers net0.net) net1.net opens.added net2.net
    opened =
        subst (λ (k : ℕ). InTurn (Opens net0.code) (ReadyOpensNone net0.code) k (numbers net0.net)
        net1.net opens.added net2.net) left1
        (subst (λ (k : ℕ). InTurn (Opens net0.code) (ReadyOpensNone net0.code)
        (budget - length book1.journal) (range_with_len 0 k) net1.net opens.added net2.net) counts
        (subst (λ (c : CodeParts). InTurn (Opens c) (ReadyOpensNone c)
        (budget - length book1.journal) (numbers net1.net) net1.net opens.added net2.net)
        work.code opens.runs))

    met :
        InTurn (Meets net0.code) (Forbids net0.code)
        (budget - length book0.journal - length es - length opens.added) (asks net2.net)
        net2.net meets.added net3.net
    met =
        subst (λ (k : ℕ). InTurn (Meets net0.code) (Forbids net0.code) k (asks net2.net)
        net2.net meets.added net3.net) left2
        (subst (λ (c : CodeParts). InTurn (Meets c) (Forbids c) (budget - length book2.journal)
        (asks net2.net) net2.net meets.added net3.net) (opens.code ∙ work.code) meets.runs)

-- ---- rounds

abbrev pub Rounds : ℕ → CodeParts → NetParts → BookKept → List Event → Net → Type 0
Rounds budget c net book = AreRounds c (budget - length book.journal) net.net

abbrev pub Round : ℕ → NetParts → BookKept → List Event → Net → Type 0
Round budget net book = IsRound net.code (budget - length book.journal) net.net

nil_is : {X : Type 0} (xs : List X) → length xs ≡ 0 → xs ≡ []
nil_is [] e = refl
nil_is (x ∷ xs) e = absurd (omega arith)

-- as the loop keeps it
abbrev pub RoundsWay : ℕ → NetParts → BookKept → NetParts → BookKept → Type 0
RoundsWay budget net0 book0 net book = OnItsWay (Rounds budget net0.code net0 book0)
    (Rounds budget net0.code net book) net0 book0 net book

module _ (budget : ℕ) (net0 net new : NetParts) (book0 book after : BookKept)
    (g : RoundsWay budget net0 book0 net book) where
  abbrev End : Type 0
  End = HaveRun (Rounds budget net0.code net0 book0) net0 book0 new after

  pub few_ends : budget - length book.journal < length net.net.sites
      → HaveRun (Goes budget net.code net book) net book new after → End
  few_ends few r =
      ends_with (Rounds budget net0.code net0 book0) (Rounds budget net0.code net book) net0 book0
      net new book after g r.added r.code r.book_is r.one
      (few_left (budget - length book.journal) net.net new.net r.added few
      (subst (λ (c : CodeParts). Goes budget c net book r.added new.net) g.code r.runs))

  module _ (many : length net.net.sites ≤ budget - length book.journal)
      (r : HaveRun (Round budget net book) net book new after) where
    round_here : IsRound net0.code (budget - length book.journal) net.net r.added new.net
    round_here =
        subst (λ (c : CodeParts). IsRound c (budget - length book.journal) net.net r.added new.net)
        g.code r.runs

    pub idle_ends : length after.journal ≡ length book.journal → new.net.packets ≡ [] → End
    idle_ends same empty =
        let long = longer book after r.added r.book_is in
        let none : r.added ≡ [] = nil_is r.added (omega arith) in
        ends_with (Rounds budget net0.code net0 book0) (Rounds budget net0.code net book) net0 book0
        net new book after g [] r.code (r.book_is ∙ ap (and_then book) none) r.one
        (last_round (budget - length book.journal) net.net new.net many (subst
        (λ (es : List Event). IsRound net0.code (budget - length book.journal) net.net es new.net)
        none round_here) empty)

    pub round_goes : (length after.journal ≡ length book.journal → new.net.packets ≡ [] → ⊥)
        → RoundsWay budget net0 book0 new after
    round_goes more =
        goes (Rounds budget net0.code net0 book0) (Rounds budget net0.code net book) net0 book0 net
        new book after g (Rounds budget net0.code new after) r.added r.code r.book_is r.one step
      where
        some : r.added ≡ [] → new.net.packets ≡ [] → ⊥
        some none = more (let long = longer book after r.added r.book_is in
            let no_more : length r.added ≡ 0 = ap length none in omega arith)

        step : (es : List Event) (end : Net) → Rounds budget net0.code new after es end
            → Rounds budget net0.code net book (r.added ++ es) end
        step es end h =
            let long = longer book after r.added r.book_is in
            let left : budget - length after.journal
            ≡ budget - length book.journal - length r.added = omega arith in
            one_round (budget - length book.journal) net.net new.net end r.added es many round_here
            some (subst (λ (k : ℕ). AreRounds net0.code k new.net es end) left h)

-- a round uses up budget, or leaves fewer deliveries, or ends the run
pub round_falls : (budget : ℕ) (net new : NetParts) (book after : BookKept) → AreOne book net
    → length new.net.packets < 2 ^ 32 → length after.journal ≤ budget
    → HaveRun (Round budget net book) net book new after
    → (length after.journal ≡ length book.journal → new.net.packets ≡ [] → ⊥)
    → (budget - length after.journal) * 2 ^ 33 + deliveries_left new.net
    < (budget - length book.journal) * 2 ^ 33 + deliveries_left net.net
round_falls budget net new book after o few within r more = go r.added r.book_is r.runs
  where
    go : (es : List Event) → after ≡ and_then book es
        → IsRound net.code (budget - length book.journal) net.net es new.net
        → (budget - length after.journal) * 2 ^ 33 + deliveries_left new.net
        < (budget - length book.journal) * 2 ^ 33 + deliveries_left net.net
    go [] is h =
        let same = same_length book after is in
        let left : budget - length after.journal ≡ budget - length book.journal =
        ap (λ (k : ℕ). budget - k) same in
        elim (idle_round book.program net.code o.is_program o.is_code o.of_program
        (budget - length book.journal) net.net new.net [] (fine book net o) h refl) [
          | inl less ↦ subst (λ (k : ℕ). k * 2 ^ 33 + deliveries_left new.net
              < (budget - length book.journal) * 2 ^ 33 + deliveries_left net.net) (sym left)
              (omega arith)
          | inr still ↦ absurd (more same still.1)
        ]
    go (e ∷ es) is h =
        let long : length after.journal ≡ length book.journal + length (e ∷ es) =
        longer book after (e ∷ es) is in
        let low = light new.net few in
        let some : 0 < length (e ∷ es) = omega arith in
        omega arith

-- ---- the whole run

-- where the machine is quiet, no event is possible
stuck_where : StuckIsQuiet → (b : BookKept) (n : Numbered) → IsSound n → solution b ≡ Some n
    → Quiet n.version n.seen (erase n) → IsStuck b
stuck_where law b n sound leads quiet =
    λ e. ap (λ (o : Option Numbered). is_some (apply_if o e)) leads
    ∙ ap (λ (o : Option Numbered). is_some o) ((law n sound).1 quiet e)

module _ (law : StuckIsQuiet) (budget : ℕ) (net end : NetParts) (book after : BookKept)
    (o : AreOne book net) (within : length book.journal ≤ budget)
    (r : HaveRun (Rounds budget net.code net book) net book end after) where
  run_ends : IsStuck after ⊎ (length after.journal ≡ budget)
  run_ends =
      elim (rounds_end book.program net.code o.is_program o.is_code o.of_program
      (budget - length book.journal) net.net end.net r.added (fine book net o) r.runs) [
        | inl full ↦ inr (let long = longer book after r.added r.book_is in omega arith)
        | inr none ↦ inl (quiet none)
      ]
    where
      quiet : ((x : Choice) → Allows net.code end.net x → ⊥) → IsStuck after
      quiet none =
          let e = r.one in
          let none_end : (x : Choice) → Allows end.code end.net x → ⊥ =
          subst (λ (c : CodeParts). (x : Choice) → Allows c end.net x → ⊥) (sym r.code) none in
          let at_rest = (none_enabled_is_quiet after.program end.code e.is_program e.is_code
          e.of_program end.net e.last e.stands e.runs).0 (not_enabled after.program end.code
          e.is_program e.is_code e.of_program end.net none_end) in
          stuck_where law after e.last e.stands.sound e.leads at_rest.1

  pub runs_in_rounds : length after.journal ≤ budget → RunsInRounds net book budget after
  runs_in_rounds within = record {
    program = ap (λ (b : BookKept). b.program) r.book_is;
    added = r.added;
    end = end.net;
    journal = ap (λ (b : BookKept). b.journal) r.book_is;
    schedule = r.runs;
    stand = λ n e. subst (Stands (rules_of_group after.program) end.net)
        (same_some r.one.last n (sym r.one.leads ∙ e)) r.one.stands;
    within = within;
    ends = run_ends;
  }

  pub whole : book.journal ≡ [] → net.net ≡ opened_net book.program.version net.code
      → RoundsOf book.program net.code budget after.journal
  whole empty opened = (o.is_code, o.of_program, end.net, schedule)
    where
      left : budget - length book.journal ≡ budget
      left = let none : length book.journal ≡ 0 = ap length empty in omega arith

      journal : after.journal ≡ r.added
      journal =
          ap (λ (b : BookKept). b.journal) r.book_is ∙ ap (λ (es : List Event). es ++ r.added) empty

      schedule :
          AreRounds net.code budget (opened_net book.program.version net.code) after.journal end.net
      schedule =
          subst (λ (es : List Event).
          AreRounds net.code budget (opened_net book.program.version net.code) es end.net)
          (sym journal)
          (subst (λ (n : Net). AreRounds net.code budget n r.added end.net) opened
          (subst (λ (k : ℕ). AreRounds net.code k net.net r.added end.net) left r.runs))
