-- Packets are taken away from a network that runs code, or put in another order.
use Rattle.std.proofs.Common.{◌≡◌, ℕ, List, [], ◌∷◌, ◌++◌, length, refl, sym, ap, subst, ◌∙◌}
use Rattle.std.proofs.Common.{arith}
use Rattle.chem_laws.proofs.Lists.{append_nil}
use Rattle.chem_model.specs.Each.{Each}
use Rattle.chem_model.specs.declared.numbered.NumberedAtom.{NumberedAtom}
use Rattle.chem_model.specs.ProgramFacts.{ProgramTerms}
use Rattle.env_store.specs.CodeParts.{CodeParts}
use Rattle.env_store.specs.Laws.{rules_of_group}
use Rattle.loc_tree.specs.Tree.{bare}
use Rattle.net_laws.specs.Net.{Addressed, Net, IsOnItsWay, under_way}
use Rattle.net_laws.specs.Opened.{RunsCode}
use Rattle.net_core.specs.UnderWay.{with_packets}
use Rattle.net_core.proofs.Fewer.{some_stand, stands_alike}
use Rattle.net_core.specs.declared.parts.Parts.{Parts}
use Rattle.net_core.specs.declared.senders.Run.{Run}
use Rattle.net_core.specs.Drained.{AreHandedOut}
use Rattle.net_core.specs.Parts.{joined, net_of, all_carried, IsMessageFlight}
use Rattle.net_core.specs.Whole.{RunsSome, IsRunning, IsWhole, IsNetWhole}
use Rattle.net_core.specs.inside.Pairing.{paired}
use Rattle.net_core.specs.inside.Runs.{spread}
use Rattle.net_core.proofs.Deliveries.{same_net}
use Rattle.net_core.proofs.Pairs.{paired_carried, paired_froms, paired_spelled}

runs_with : (p : ProgramTerms) (c : CodeParts) (net : Net) (qs : List Addressed) → RunsCode p c net
    → Each (IsOnItsWay (length net.sites)) qs → RunsCode p c (with_packets qs net)
runs_with p c net qs runs each = record {
  version = runs.version;
  seen = runs.seen;
  keeps = record { kept = runs.keeps.kept; coded = runs.keeps.coded; packets = each };
  of_code = runs.of_code;
  drawn = runs.drawn;
}

-- without those in front
each_behind : {X : Type 0} (P : X → Type 0) (xs ys : List X) → Each P (xs ++ ys) → Each P ys
each_behind P [] ys h = h
each_behind P (x ∷ xs) ys h = each_behind P xs ys h.1

pub runs_some_fewer : (c : CodeParts) (ps : List Addressed) (net : Net) (qs : List Addressed)
    → RunsSome c (with_packets (ps ++ qs) net) → RunsSome c (with_packets qs net)
runs_some_fewer c ps net qs some =
    let fewer = some_stand (rules_of_group some.program) ps net some.solution qs some.stands in
    record {
      program = some.program;
      is_program = some.is_program;
      of_program = some.of_program;
      solution = fewer.solution;
      stands = fewer.stands;
      runs = runs_with some.program c (with_packets (ps ++ qs) net) qs
          some.runs (each_behind (IsOnItsWay (length net.sites)) ps qs some.runs.keeps.packets);
    }

-- the same in another order
pub runs_some_alike : (c : CodeParts) (net : Net) (qs : List Addressed) → RunsSome c net
    → ((a : NumberedAtom) → under_way qs a ≡ under_way net.packets a)
    → Each (IsOnItsWay (length net.sites)) qs → RunsSome c (with_packets qs net)
runs_some_alike c net qs some same each = record {
  program = some.program;
  is_program = some.is_program;
  of_program = some.of_program;
  solution = some.solution;
  stands = stands_alike (rules_of_group some.program) net some.solution qs some.stands same;
  runs = runs_with some.program c net qs some.runs each;
}

-- ---- parts whose packets are all handed out

pub record AreDrained (old new : Parts) : Type 0 where
  pub version : new.version ≡ old.version
  pub sites : new.sites.items ≡ old.sites.items
  pub tree : bare new.tree ≡ bare old.tree
  pub trace : new.trace.items ≡ old.trace.items
  pub flights : new.flights.items ≡ []
  pub under_way : new.under_way ≡ 0

pub drained_net : (seen : List ℕ) (old new : Parts) → AreDrained old new
    → net_of seen new ≡ with_packets [] (net_of seen old)
drained_net seen old new d =
    same_net (net_of seen new) (with_packets [] (net_of seen old)) d.version refl d.sites d.tree
    (ap joined d.trace) (ap all_carried d.flights)

drained_running : (c : CodeParts) (net : Net) (events : ℕ) → IsRunning c net events
    → IsRunning c (with_packets [] net) events
drained_running c net events h = record {
  code = h.code;
  some = runs_some_fewer c net.packets net []
      (subst (λ (qs : List Addressed). RunsSome c (with_packets qs net))
      (sym (append_nil net.packets)) h.some);
  fit = record { in_tree = h.fit.in_tree; in_code = h.fit.in_code; draws = h.fit.draws };
  few_sites = h.few_sites;
  made = h.made;
}

pub drained_whole : (c : CodeParts) (old new : Parts) (events : ℕ) → AreDrained old new
    → IsWhole c old events → IsWhole c new events
drained_whole c old new events d h = record {
  running = subst (λ (net : Net). IsRunning c net events) (sym (drained_net c.seen old new d))
      (drained_running c (net_of c.seen old) events h.running);
  flying = record {
    spelled =
        subst (Each IsMessageFlight) (sym d.flights) tt;
    counted = d.under_way ∙ ap length (sym d.flights);
    few = omega (arith, d.under_way);
  };
}

-- they are handed out
pub are_handed_out :
    (c : CodeParts) (old new : Parts) (was now : List Run) (events : ℕ)
    → IsNetWhole c old was events → AreDrained old new → now ≡ []
    → AreHandedOut
    (record { code = c; net = net_of c.seen old; froms = spread was; events = events })
    (paired old.flights.items (spread was))
    (record { code = c; net = net_of c.seen new; froms = spread now; events = events })
are_handed_out c old new was now events h drained none =
    let fs = old.flights.items in
    let ns = spread was in
    let many : length fs ≡ length ns = omega (arith, h.sent, h.whole.flying.counted) in
    record {
      carried_are = paired_carried fs ns many;
      froms_are = paired_froms fs ns many;
      spelled = paired_spelled fs ns h.whole.flying.spelled;
      left = λ i. record {
        code = c;
        net = drained_net c.seen old new drained i;
        froms = spread (none i);
        events = events;
      };
    }

pub drained_both : (c : CodeParts) (old new : Parts) (was now : List Run) (events : ℕ)
    → IsNetWhole c old was events → AreDrained old new → now ≡ [] → IsNetWhole c new now events
drained_both c old new was now events h drained none = record {
  whole = drained_whole c old new events drained h.whole;
  sent = ap (λ (rs : List Run). length (spread rs)) none ∙ sym drained.under_way;
}
