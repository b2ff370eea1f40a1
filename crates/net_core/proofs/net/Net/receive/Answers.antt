use Rattle.std.proofs.Common.{◌<◌, ◌∙◌, length, refl, sym, subst, inl}
use Rattle.std.proofs.lemmas.Result.{on_ok_weaker}
use Rattle.net_core.specs.Parts.{net_of}
use Rattle.net_core.specs.Received.{with_last, HasReceived}
use Rattle.net_core.specs.Whole.{NetParts, RunsSome}
use Rattle.net_core.specs.inside.Runs.{spread}
use Rattle.net_core.proofs.Deliveries.{as_before_net}
use Rattle.net_core.proofs.Fitting.{both_err}
use Rattle.loc_tree.specs.Tree.{bare}
use Rattle.net_core.proofs.Idling.{none_known}
use Rattle.net_core.proofs.FromOutside.{either_whole, has_received}
use Rattle.net_core.proofs.net.Net.receive.Goals as goal

pub receive_noted-requires-clause-site : goal.receive_noted-requires-clause-site
receive_noted-requires-clause-site c =
    subst (λ (v : NetParts). c.args.site < length v.net.sites) (sym c.self.view_is) c.requires.site

pub receive_noted-requires-clause-whole : goal.receive_noted-requires-clause-whole
receive_noted-requires-clause-whole c =
    let some =
    subst (λ (v : NetParts). RunsSome v.code (with_last v.net c.args.site c.args.bytes.now))
    (sym c.self.view_is) c.requires.stands in
    (c.self.inside.code, c.self.inside.events, c.self.invariant.net, some)

pub invariant_of-self : goal.invariant_of-self
invariant_of-self c =
    let some =
    subst (λ (v : NetParts). RunsSome v.code (with_last v.net c.args.site c.args.bytes.now))
    (sym c.self.view_is) c.requires.stands in
    record {
      net = either_whole c.self.inside.code c.self.inside.parts c.receive_noted.new.parts
          c.self.inside.senders.items c.receive_noted.new.senders.items c.self.inside.events
          c.receive_noted.result c.self.invariant.net
          (on_ok_weaker c.receive_noted.result
          (λ f. (f c.self.inside.code c.self.inside.events c.self.invariant.net some).whole)
          c.receive_noted.ensures.ok) c.receive_noted.ensures.err
          c.receive_noted.ensures.err_senders;
      rests = inl c.clear.ensures.items;
      quiet = none_known c.self.inside.code (bare c.receive_noted.new.parts.tree)
          c.receive_noted.new.parts.sites.items c.clear-2.new.self.items c.clear-2.ensures.items;
    }

pub returns-clause-ok : goal.returns-clause-ok
returns-clause-ok c =
    let some =
    subst (λ (v : NetParts). RunsSome v.code (with_last v.net c.args.site c.args.bytes.now))
    (sym c.self.view_is) c.requires.stands in
    let code = c.self.inside.code in
    let before : NetParts = record {
      code = code;
      net = net_of code.seen c.self.inside.parts;
      froms = spread c.self.inside.senders.items;
      events = c.self.inside.events;
    } in
    let after : NetParts = record {
      code = code;
      net = net_of code.seen c.receive_noted.new.parts;
      froms = spread c.receive_noted.new.senders.items;
      events = c.self.inside.events;
    } in
    on_ok_weaker c.receive_noted.result
    (λ f. let done = f code c.self.inside.events c.self.invariant.net some in
    subst (λ (v : NetParts). HasReceived v c.args.site c.args.bytes.now after)
    c.self.view_is (has_received before after c.args.site c.args.bytes.now c.self.inside.events
    c.self.invariant.net.whole.running some done.delivers refl refl done.froms))
    c.receive_noted.ensures.ok

pub returns-clause-err : goal.returns-clause-err
returns-clause-err c =
    let code = c.self.inside.code in
    both_err c.receive_noted.result
    (λ same senders. (λ i. record {
      code = code;
      net = as_before_net code.seen c.self.inside.parts c.receive_noted.new.parts same i;
      froms = spread (senders i);
      events = c.self.inside.events;
    }) ∙ c.self.view_is)
    c.receive_noted.ensures.err c.receive_noted.ensures.err_senders
