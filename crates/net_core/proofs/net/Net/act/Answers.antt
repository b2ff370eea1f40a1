use Rattle.std.proofs.Common.{◌≡◌, ◌+◌, ◌<◌, ◌^◌, Option, Some, None, refl, ap, subst, sym}
use Rattle.std.proofs.Common.{arith, inl}
use Rattle.chem_model.specs.declared.event.Event.{Event}
use Rattle.net_core.specs.Making.{counted, HasActed}
use Rattle.net_core.specs.Parts.{net_of}
use Rattle.net_core.specs.Whole.{NetParts, IsNetWhole}
use Rattle.net_core.specs.inside.Noted.{IsMadeNoted}
use Rattle.net_core.specs.inside.Runs.{spread}
use Rattle.loc_tree.specs.Tree.{bare}
use Rattle.net_core.proofs.Done.{has_acted}
use Rattle.net_core.proofs.StillIdle.{acts_idle, stays_idle}
use Rattle.net_core.specs.inside.Idle.{AreIdle}
use Rattle.net_core.proofs.net.Net.act.Goals as goal

pub make_noted-requires-clause-whole : goal.make_noted-requires-clause-whole
make_noted-requires-clause-whole c =
    let few : c.self.inside.events < 2 ^ 32 =
    omega (arith, c.requires.few, ap (λ (v : NetParts). v.events) c.self.view_is) in
    (c.self.inside.events, few, c.self.invariant.net)

pub invariant_of-self : goal.invariant_of-self
invariant_of-self c =
    let code = c.self.inside.code in
    let old = c.self.inside.parts in
    let new = c.make_noted.new.parts in
    record {
      net = c.in_err-event.ensures.err c.self.inside.events c.self.invariant.net;
      rests = inl c.clear.ensures.items;
      quiet = subst (AreIdle code (bare new.tree) new.sites.items) (sym c.forget.ensures)
          (stays_idle code (net_of code.seen old) (net_of code.seen new) c.args.choice.now
          c.self.inside.idle.items c.in_err-event.ensures.same c.self.invariant.quiet);
    }

pub invariant_of-self-in-Some : goal.invariant_of-self-in-Some
invariant_of-self-in-Some c =
    let code = c.self.inside.code in
    let old = c.self.inside.parts in
    let new = c.make_noted.new.parts in
    let few : c.self.inside.events < 2 ^ 32 =
    omega (arith, c.requires.few, ap (λ (v : NetParts). v.events) c.self.view_is) in
    record {
      net = subst (λ (o : Option Event). IsNetWhole c.self.inside.code c.make_noted.new.parts
          c.make_noted.new.senders.items (c.self.inside.events + counted o)) c.in-Some.is
          (c.in_ok-event.ensures.whole c.self.inside.events few c.self.invariant.net);
      rests = inl c.clear.ensures.items;
      quiet = subst (AreIdle code (bare new.tree) new.sites.items) (sym c.forget.ensures)
          (acts_idle code (net_of code.seen old) (net_of code.seen new) c.args.choice.now
          c.in_ok-event.field-0 c.self.inside.events c.self.inside.idle.items
          c.self.invariant.net.whole.running c.in_ok-event.ensures.made.acts
          c.self.invariant.quiet);
    }

pub invariant_of-self-in-None : goal.invariant_of-self-in-None
invariant_of-self-in-None c =
    let code = c.self.inside.code in
    let old = c.self.inside.parts in
    let new = c.make_noted.new.parts in
    let few : c.self.inside.events < 2 ^ 32 =
    omega (arith, c.requires.few, ap (λ (v : NetParts). v.events) c.self.view_is) in
    let same : c.self.inside.events + 0 ≡ c.self.inside.events = omega arith in
    record {
      net = subst
          (IsNetWhole c.self.inside.code c.make_noted.new.parts c.make_noted.new.senders.items) same
          (subst (λ (o : Option Event). IsNetWhole c.self.inside.code c.make_noted.new.parts
          c.make_noted.new.senders.items (c.self.inside.events + counted o)) c.in-None.is
          (c.in_ok-event.ensures.whole c.self.inside.events few c.self.invariant.net));
      rests = inl c.clear.ensures.items;
      quiet = subst (AreIdle code (bare new.tree) new.sites.items) (sym c.forget.ensures)
          (acts_idle code (net_of code.seen old) (net_of code.seen new) c.args.choice.now
          c.in_ok-event.field-0 c.self.inside.events c.self.inside.idle.items
          c.self.invariant.net.whole.running c.in_ok-event.ensures.made.acts
          c.self.invariant.quiet);
    }

pub returns-in-Some-clause-ok : goal.returns-in-Some-clause-ok
returns-in-Some-clause-ok c =
    let code = c.self.inside.code in
    let froms = spread c.self.inside.senders.items in
    let later = spread c.make_noted.new.senders.items in
    let old : NetParts = record {
      code = code;
      net = net_of code.seen c.self.inside.parts;
      froms = froms;
      events = c.self.inside.events;
    } in
    let new : NetParts = record {
      code = code;
      net = net_of code.seen c.make_noted.new.parts;
      froms = later;
      events = c.self.inside.events + 1;
    } in
    let made = subst (λ (o : Option Event).
    IsMadeNoted code c.self.inside.parts froms c.args.choice.now o c.make_noted.new.parts later)
    c.in-Some.is c.in_ok-event.ensures.made in
    subst (λ (v : NetParts). HasActed v c.args.choice.now (Some c.in-Some.event) new) c.self.view_is
    (has_acted old new c.args.choice.now (Some c.in-Some.event) c.self.inside.events
    c.self.invariant.net.whole.running made.acts refl refl made.sender made.sent_by made.noted)

pub returns-in-None-clause-ok : goal.returns-in-None-clause-ok
returns-in-None-clause-ok c =
    let code = c.self.inside.code in
    let froms = spread c.self.inside.senders.items in
    let later = spread c.make_noted.new.senders.items in
    let old : NetParts = record {
      code = code;
      net = net_of code.seen c.self.inside.parts;
      froms = froms;
      events = c.self.inside.events;
    } in
    let new : NetParts = record {
      code = code;
      net = net_of code.seen c.make_noted.new.parts;
      froms = later;
      events = c.self.inside.events;
    } in
    let made = subst (λ (o : Option Event).
    IsMadeNoted code c.self.inside.parts froms c.args.choice.now o c.make_noted.new.parts later)
    c.in-None.is c.in_ok-event.ensures.made in
    let count : c.self.inside.events ≡ c.self.inside.events + 0 = omega arith in
    subst (λ (v : NetParts). HasActed v c.args.choice.now None new) c.self.view_is
    (has_acted old new c.args.choice.now None
    c.self.inside.events c.self.invariant.net.whole.running
    made.acts refl count made.sender made.sent_by made.noted)
