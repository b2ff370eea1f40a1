use Rattle.std.proofs.Common.{◌≡◌, ap, ◌∙◌}
use Rattle.std.proofs.lemmas.List.{with_items_is}
use Rattle.shared_net.specs.inside.Beginning.{with_sends}
use Rattle.shared_net.proofs.preparing.first_mails.Goals as goal

pub returns-in-Ok : goal.returns-in-Ok
returns-in-Ok c =
    let old = c.in_ok-mails.mails in
    let handed = c.args.handed.now.items in
    let sent : c.add_handed.new.mails ≡ with_sends handed old.items =
    c.in-Ok.ensures ∙ ap (with_sends handed) c.deref_mut.ensures.value in
    record {
      before = old.items;
      many = c.in_ok-mails.ensures.count;
      none = c.in_ok-mails.ensures.none;
      are = with_items_is old c.add_handed.new.mails
          (c.add_handed.auto.mails ∙ c.deref_mut.ensures.len) ∙ sent;
    }
