use Rattle.std.proofs.Common.{◌≡◌, ℕ, List, [], length}
use Rattle.chem_model.specs.Each.{Each}
use Rattle.shared_net.proofs.preparing.empty_mails.Given as goal

abbrev pub invariant-loop-site : goal.invariant-loop-site
invariant-loop-site l = record {
  count : length l.mails.items ≡ l._site;
  none : Each (λ (mail : List (List ℕ)). mail ≡ []) l.mails.items;
}
