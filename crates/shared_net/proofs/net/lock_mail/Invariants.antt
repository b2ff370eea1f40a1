use Rattle.std.proofs.Common.{◌≡◌, ◌+◌, length, vec_len}
use Rattle.chem_model.specs.Each.{Each}
use Rattle.site_turn.specs.Mail.{IsMessageText}
use Rattle.shared_net.proofs.net.lock_mail.Given as goal

abbrev pub invariant-loop-texts : goal.invariant-loop-texts
invariant-loop-texts l = record {
  count : vec_len l.locked + length l.texts-iterator.rest.items ≡ length l.fn.mails.items;
  spelled : Each (Each IsMessageText) l.texts-iterator.rest.items;
}
