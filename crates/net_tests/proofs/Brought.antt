-- One packet that is handed out may come back from outside.
use Rattle.std.proofs.Common.{◌≡◌, ℕ, ◌<◌, ◌++◌, List, [], ◌∷◌, map, length, refl, sym, ap, subst}
use Rattle.std.proofs.Common.{◌∙◌}
use Rattle.chem_model.specs.Each.{Each}
use Rattle.env_store.specs.CodeParts.{CodeParts}
use Rattle.net_laws.specs.Net.{Addressed, Net, IsOnItsWay}
use Rattle.net_core.specs.UnderWay.{with_packets}
use Rattle.net_core.specs.declared.drained.FlightFrom.{FlightFrom}
use Rattle.net_core.specs.Drained.{AreHandedOut}
use Rattle.net_core.specs.Parts.{carried, IsMessageFlight, IsMessageText}
use Rattle.net_core.specs.Received.{with_last}
use Rattle.net_core.specs.Whole.{NetParts, RunsSome}

pub one_handed : (old new : NetParts) (fs gs : List FlightFrom) (f : FlightFrom)
    → AreHandedOut old fs new → fs ≡ f ∷ gs → gs ≡ [] → AreHandedOut old (f ∷ []) new
one_handed old new fs gs f out first none =
    subst (λ (hs : List FlightFrom). AreHandedOut old hs new)
    (first ∙ ap (λ (hs : List FlightFrom). f ∷ hs) none) out

module _ (old new : NetParts) (f : FlightFrom) (some : RunsSome old.code old.net)
    (out : AreHandedOut old (f ∷ []) new) where
  bare : new.net ≡ with_packets [] old.net
  bare = ap (λ (v : NetParts). v.net) out.left

  same : with_last new.net f.flight.target f.flight.bytes ≡ old.net
  same = ap (λ (n : Net). with_last n f.flight.target f.flight.bytes) bare
      ∙ ap (λ (ps : List Addressed). with_packets ps old.net) out.carried_are

  pub comes_back : RunsSome new.code (with_last new.net f.flight.target f.flight.bytes)
  comes_back =
      subst (λ (c : CodeParts). RunsSome c (with_last new.net f.flight.target f.flight.bytes))
      (sym (ap (λ (v : NetParts). v.code) out.left))
      (subst (RunsSome old.code) (sym same) some)

  pub to_a_site : f.flight.target < length new.net.sites
  to_a_site =
      let on_its_way = subst (Each (IsOnItsWay (length old.net.sites))) (sym out.carried_are)
      some.runs.keeps.packets in
      subst (λ (n : Net). f.flight.target < length n.sites) (sym bare) on_its_way.0.1

  pub is_spelled : IsMessageText f.flight.bytes
  is_spelled = out.spelled.0
