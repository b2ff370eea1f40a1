-- What the openings of sites hand out, one after another.
use Rattle.std.specs.Prelude.{◌≡◌, ℕ, ◌+◌, ◌<◌, ◌^◌, List, [], ◌∷◌, ◌++◌, replicate, length}
use Rattle.chem_model.specs.declared.event.Out.{Out}
use Rattle.wire_packet.specs.declared.packet.Flight.{Flight}
use Rattle.site_solution.specs.declared.effects.Effects.{Effects}
use Rattle.net_core.specs.declared.parts.Parts.{Parts}
use Rattle.net_core.specs.declared.senders.Run.{Run}
use Rattle.net_core.specs.Parts.{joined}
use Rattle.net_core.specs.inside.Runs.{spread}

-- these observables and these packets are behind those before, each packet from its site; all else
-- is as it was
pub record AreBehind (outs : List Out) (sends : List Flight) (froms : List ℕ) (old : Parts)
    (was : List Run) (new : Parts) (now : List Run) : Type 0 where
  pub version : new.version ≡ old.version
  pub sites : new.sites ≡ old.sites
  pub tree : new.tree ≡ old.tree
  pub trace : joined new.trace.items ≡ joined old.trace.items ++ outs
  pub flights : new.flights.items ≡ old.flights.items ++ sends
  pub count : new.under_way ≡ old.under_way + length sends
  pub few : old.under_way < 2 ^ 32 → new.under_way < 2 ^ 32
  pub sent : spread now ≡ spread was ++ froms

-- what the opening of the site with the number n hands out is
abbrev pub HandsOut : ℕ → Effects → Parts → List Run → Parts → List Run → Type 0
HandsOut n e = AreBehind e.outs e.sends (replicate (length e.sends) n)

-- what the openings from that of the site with the number n on hand out
abbrev pub all_outs : List Effects → List Out
all_outs [] = []
all_outs (e ∷ es) = e.outs ++ all_outs es

abbrev pub all_sends : List Effects → List Flight
all_sends [] = []
all_sends (e ∷ es) = e.sends ++ all_sends es

abbrev pub all_froms : ℕ → List Effects → List ℕ
all_froms n [] = []
all_froms n (e ∷ es) = replicate (length e.sends) n ++ all_froms (n + 1) es

abbrev pub HandsAllOut : ℕ → List Effects → Parts → List Run → Parts → List Run → Type 0
HandsAllOut n es = AreBehind (all_outs es) (all_sends es) (all_froms n es)
