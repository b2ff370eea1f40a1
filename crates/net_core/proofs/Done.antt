-- What a choice that was made has done.
use Rattle.std.proofs.Common.{◌≡◌, ℕ, ◌+◌, ◌-◌, ◌<◌, ◌++◌, length, replicate, true, arith, Option}
use Rattle.std.proofs.Common.{Some, None, Result, Ok, Err, sym, ap, ◌∙◌, subst}
use Rattle.std.specs.Prelude.{IfOk, OnOk}
use Rattle.chem_model.specs.declared.event.AtomId.{AtomId}
use Rattle.chem_model.specs.declared.event.Event.{Event}
use Rattle.chem_model.specs.declared.event.Event.TheVariants as event
use Rattle.env_store.specs.CodeParts.{CodeParts}
use Rattle.env_store.specs.CodeFacts.{IsCode}
use Rattle.env_store.specs.Laws.{rules_of_group}
use Rattle.loc_tree.specs.Tree.{bare}
use Rattle.net_laws.specs.Net.{Net}
use Rattle.reducer.specs.declared.pick.Pick.{Pick}
use Rattle.net_core.specs.declared.choice.Choice.{Choice}
use Rattle.net_core.specs.declared.choice.Choice.TheVariants as choice
use Rattle.net_laws.proofs.Sites.{get_below}
use Rattle.net_core.specs.declared.parts.Parts.{Parts}
use Rattle.net_core.specs.inside.AtSites.{MayReactAt}
use Rattle.net_core.specs.Choosing.{MayReact, MayDeliver, Allows, request_of}
use Rattle.net_core.specs.Parts.{all_carried, net_of}
use Rattle.net_core.specs.inside.Searched.{meets, IsMet}
use Rattle.net_core.specs.Acting.{Reacts, Delivers, Halts, Detects, Moves}
use Rattle.net_core.specs.Acts.{Acts}
use Rattle.net_core.specs.Acts as acts
use Rattle.net_core.specs.Making.{counted, Falls, HasActed}
use Rattle.net_core.specs.Senders.{IsSentBy, kept}
use Rattle.net_core.specs.Senders as senders
use Rattle.net_core.specs.Playing.{Does}
use Rattle.net_core.specs.Playing as does
use Rattle.net_core.specs.Whole.{NetParts, RunsSome, IsRunning, AreFlying}
use Rattle.net_core.proofs.Carrying.{carried_length}
use Rattle.net_core.proofs.Falling.{deliveries_fall}
use Rattle.net_core.proofs.FirstRequests.{allowed_seen, meets_bare}
use Rattle.net_core.proofs.Reaching.{fires_full}
use Rattle.net_core.proofs.SiteReactions.{reacts_fires}
use Rattle.net_core.proofs.Playing.{one_leads}

pub acts_does : (c : CodeParts) (net new : Net) (x : Choice) (o : Option Event) → Acts c net x o new
    → Does c net o new
acts_does c net new x o (acts.react i p e _ h) = does.react i p.group p.guard e new h
acts_does c net new x o (acts.deliver f _ h) = does.deliver f new h
acts_does c net new x o (acts.move a _ h) = does.move a new h
acts_does c net new x o (acts.halt a _ h) = does.halt a new h
acts_does c net new x o (acts.detect a _ h) = does.detect a new h

acts_falls : (c : CodeParts) (net new : Net) (x : Choice) (o : Option Event) → RunsSome c net
    → Acts c net x o new → Falls net o new
acts_falls c net new x o some (acts.react i p e _ h) = tt
acts_falls c net new x o some (acts.deliver f _ h) = deliveries_fall (rules_of_group some.program)
    net new some.solution f some.stands some.runs.keeps.packets h
acts_falls c net new x o some (acts.move a _ h) = tt
acts_falls c net new x o some (acts.halt a _ h) = tt
acts_falls c net new x o some (acts.detect a _ h) = tt

pub has_acted : (old new : NetParts) (x : Choice) (o : Option Event) (events : ℕ)
    → IsRunning old.code old.net events → Acts old.code old.net x o new.net → new.code ≡ old.code
    → new.events ≡ old.events + counted o
    → (sender : ℕ) → IsSentBy old.net x sender → new.froms ≡ kept x old.froms
    ++ replicate (length new.net.packets - length (kept x old.net.packets)) sender
    → HasActed old x o new
has_acted old new x o events running made code count sender by froms = record {
  acts = made;
  code = code;
  events = count;
  leads = one_leads old.code old.net new.net o
      running.code (acts_does old.code old.net new.net x o made);
  falls = acts_falls old.code old.net new.net x o running.some made;
  sender = sender;
  sent_by = by;
  froms = froms;
}

-- ---- a request that was met, as the choice that meets it

module _ {E : Type 0} (c : CodeParts) (net new : Net) (x : Choice) (a : AtomId) where
  pub moved_acts : (r : Result (ℕ × Event) E) → x ≡ choice.Move a → IfOk r (λ d. d.1 ≡ event.Move a)
      → OnOk r (Moves net a new) → IfOk r (λ d. Acts c net x (Some d.1) new)
  moved_acts (Ok d) is same done = subst (λ (y : Choice). Acts c net y (Some d.1) new) (sym is)
      (subst (λ (v : Event). Acts c net (choice.Move a) (Some v) new) (sym same)
      (acts.move a new done))
  moved_acts (Err f) is same done = tt

  pub moved_sends : (r : Result (ℕ × Event) E) → x ≡ choice.Move a
      → IfOk r (λ d. IsSentBy net (choice.Move a) d.0) → IfOk r (λ d. IsSentBy net x d.0)
  moved_sends (Ok d) is by = subst (λ (y : Choice). IsSentBy net y d.0) (sym is) by
  moved_sends (Err f) is by = tt

pub detected_acts : (c : CodeParts) (net new : Net) (x : Choice) (a : AtomId) (e : Event)
    → x ≡ choice.Detect a → e ≡ event.Detect a → Detects net a new → Acts c net x (Some e) new
detected_acts c net new x a e is same done = subst (λ (y : Choice). Acts c net y (Some e) new)
    (sym is) (subst (λ (v : Event). Acts c net (choice.Detect a) (Some v) new) (sym same)
    (acts.detect a new done))

pub halted_acts : (c : CodeParts) (net new : Net) (x : Choice) (a : AtomId) (e : Event)
    → x ≡ choice.Halt a → e ≡ event.Halt a → Halts net a new → Acts c net x (Some e) new
halted_acts c net new x a e is same done = subst (λ (y : Choice). Acts c net y (Some e) new)
    (sym is) (subst (λ (v : Event). Acts c net (choice.Halt a) (Some v) new) (sym same)
    (acts.halt a new done))

pub reacted_acts : (c : CodeParts) (net new : Net) (x : Choice) (i : ℕ) (p : Pick) (e : Event)
    → x ≡ choice.React i p → Reacts c net i p.group p.guard e new → Acts c net x (Some e) new
reacted_acts c net new x i p e is done =
    subst (λ (y : Choice). Acts c net y (Some e) new) (sym is) (acts.react i p e new done)

pub reacted_sends : (net : Net) (x : Choice) (i : ℕ) (p : Pick) → x ≡ choice.React i p
    → IsSentBy net x i
reacted_sends net x i p is = subst (λ (y : Choice). IsSentBy net y i) (sym is) (senders.react i p)

pub delivered_sends : (net : Net) (x : Choice) (f sender : ℕ) → x ≡ choice.Deliver f
    → IsSentBy net (choice.Deliver f) sender → IsSentBy net x sender
delivered_sends net x f sender is by = subst (λ (y : Choice). IsSentBy net y sender) (sym is) by

pub delivered_acts : (c : CodeParts) (net new : Net) (x : Choice) (f : ℕ) → x ≡ choice.Deliver f
    → Delivers net f new → Acts c net x None new
delivered_acts c net new x f is done =
    subst (λ (y : Choice). Acts c net y None new) (sym is) (acts.deliver f new done)

-- ---- what an enabled choice needs of the parts

pub may_react : (c : CodeParts) (kept : IsCode c) (p : Parts) (i : ℕ) (pick : Pick)
    → MayReact c (net_of c.seen p) i pick → MayReactAt c p.tree p.sites.items i pick
may_react c kept p i pick may =
    let f = reacts_fires c (net_of c.seen p) kept i pick may in
    record {
      site = may.by.site;
      site_is = may.by.site_is;
      pick = f.0;
      fires = fires_full c p.tree may.by.site pick f.0 f.1;
    }

pub may_meet : (c : CodeParts) (p : Parts) (x : Choice) (a : AtomId) → request_of x ≡ Some a
    → Allows c (net_of c.seen p) x → (i : ℕ) × IsMet p.version p.sites.items p.tree x i
may_meet c p x a asks allowed =
    let net = net_of c.seen p in
    let seen = allowed_seen c net x a asks allowed in
    let met : meets p.version (bare p.tree) x seen.site ≡ true =
    ap (λ (y : Choice). meets p.version (bare p.tree) y seen.site) (sym seen.is)
    ∙ seen.meetable.met in (
      seen.number,
      record {
        site = seen.site;
        site_is = seen.site_is;
        met = sym (meets_bare p.version p.tree x seen.site) ∙ met;
      },
    )

pub may_deliver : (c : CodeParts) (p : Parts) (f : ℕ) → AreFlying p → MayDeliver (net_of c.seen p) f
    → f < p.under_way
may_deliver c p f flying may =
    omega (
      arith,
      get_below (all_carried p.flights.items) f may.packet may.packet_is,
      carried_length p.flights.items,
      flying.counted,
    )
