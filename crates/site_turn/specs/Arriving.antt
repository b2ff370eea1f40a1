-- What becomes of the mail of a site.
use Rattle.std.specs.Prelude.{◌≡◌, ℕ, Bool, true, false, List, [], ◌∷◌, ◌++◌, cond, take}
use Rattle.wire_packet.specs.MessageFacts.{MessageParts}
use Rattle.wire_packet.specs.declared.packet.Flight.{Flight}
use Rattle.loc_tree.specs.Tree.{Tree}
use Rattle.net_laws.specs.Site.{Site}
use Rattle.net_laws.specs.Net.{Addressed, among, address}
use Rattle.net_laws.specs.Holding.{put}
use Rattle.site_solution.specs.InTree.{is_in_tree}
use Rattle.site_solution.specs.Answers.{AreFlights}
use Rattle.router.specs.Delivering.{can_deliver, home_at}
use Rattle.site_turn.specs.Mail.{AreSpelled}

-- a site, and the messages that go on from it
pub record Arrival : Type 0 where
  pub site : Site
  pub on : List Addressed

-- a message that may be delivered is put at its home where that is hosted here, and else goes on to
-- the site that hosts it
abbrev pub brought : Tree → MessageParts → Site → Arrival
brought t m s =
    let home = home_at s m in
    cond (among s.locs home)
    (record { site = put home m s; on = [] })
    (record { site = s; on = record { target = address t home; msg = m } ∷ [] })

-- any other message is dropped
abbrev pub come : Tree → MessageParts → Site → Arrival
come t m s = cond (can_deliver t s m) (brought t m s) (record { site = s; on = [] })

-- messages come one after another, each to the site that those before it left
abbrev pub all_come : Tree → List MessageParts → Site → Arrival
all_come t [] s = record { site = s; on = [] }
all_come t (m ∷ ms) s =
    let first = come t m s in
    let others = all_come t ms first.site in
    record { site = others.site; on = first.on ++ others.on }

-- the messages that the mail spells came, and the flights carry those that go on
pub record HasCome (t : Tree) (s : Site) (mail : List (List ℕ)) (new : Site)
    (on : List Flight) : Type 0 where
  pub msgs : List MessageParts
  pub spelled : AreSpelled msgs mail
  pub site : new ≡ (all_come t msgs s).site
  pub flights : AreFlights (all_come t msgs s).on on

-- where what the site holds and names isn't all in the tree, all messages are dropped
abbrev pub ArrivesWhere :
    Bool → Tree → Site → List (List ℕ) → Site → List Flight → Type 0
ArrivesWhere true t s mail new on = HasCome t s mail new on
ArrivesWhere false t s mail new on = (new ≡ s) × (on ≡ [])

abbrev pub Arrives : Tree → Site → List (List ℕ) → Site → List Flight → Type 0
Arrives t s mail new on = ArrivesWhere (is_in_tree t s) t s mail new on

-- the mail was worked off up to one of its texts
pub record HasBegun (t : Tree) (s : Site) (mail : List (List ℕ)) (new : Site) : Type 0 where
  pub done : ℕ
  pub on : List Flight
  pub arrived : Arrives t s (take done mail) new on
