-- Where the queue of a channel is, and the index that tells.
use Rattle.std.specs.Prelude.{◌≡◌, ℕ, suc, ◌+◌, ◌-◌, ◌<◌, ◌≤◌, ◌^◌, Bool, ◌&&◌, cond, List, [], ◌∷◌}
use Rattle.std.specs.Prelude.{length, nat_eq, vec_len, vec_capacity, Option, Some, None, ◌==◌}
use Rattle.std.specs.Prelude.{slice_get, nat_lt, false}
use Rattle.std.specs.HashMap.{get, spare}
use Rattle.chem_model.specs.declared.name.Loc.{Loc}
use Rattle.chem_model.specs.declared.name.Name.{Name}
use Rattle.chem_model.specs.declared.name.Name.TheVariants as name
use Rattle.chem_model.specs.Solution.{same_loc}
use Rattle.chem_model.specs.Each.{Each}
use Rattle.wire_packet.specs.MessageFacts.{MessageParts}
use Rattle.wire_packet.specs.declared.packet.Waiting.{Waiting}
use Rattle.queue_cells.specs.Grouped.{Queued}
use Rattle.net_laws.specs.Site.{Told, Group, Site, told_in}
use Rattle.net_laws.specs.Changes.{AreQueues}
use Rattle.net_laws.specs.Kept.{AreApart}
use Rattle.net_laws.specs.Holding.{new_group}
use Rattle.site_shelves.specs.declared.told.Spot.{Spot}
use Rattle.site_shelves.specs.declared.told.Mark.{Mark}
use Rattle.site_shelves.specs.declared.told.Spots.{Spots}

-- ---- groups as queue_cells has them

abbrev pub Rows : Type 0
Rows = List (Queued Told MessageParts)

abbrev pub groups_of : Rows → List Group
groups_of [] = []
groups_of (q ∷ qs) = record { told = q.told; queues = q.lists } ∷ groups_of qs

abbrev pub told_of : Rows → List Told
told_of qs = told_in (groups_of qs)

-- groups with empty queues
abbrev pub new_groups : List Told → List Group
new_groups [] = []
new_groups (d ∷ ds) = new_group d ∷ new_groups ds

-- a site with other groups and other stuck messages
abbrev pub holding : Site → Rows → List Waiting → Site
holding s qs ws = record s { groups = groups_of qs; stuck = ws }

-- ---- keys of channels: the channel's pair, and that of its home

abbrev pub Key : Type 0
Key = (ℕ × ℕ) × (ℕ × ℕ)

abbrev pub same_pair : ℕ × ℕ → ℕ × ℕ → Bool
same_pair p q = nat_eq p.0 q.0 && nat_eq p.1 q.1

abbrev pub same_key : Key → Key → Bool
same_key p q = same_pair p.0 q.0 && same_pair p.1 q.1

abbrev pub key_of : ℕ → ℕ → Loc → Key
key_of site k home = ((site, k), (home.site, home.k))

-- ---- where a channel's queue is

-- one of so many channels of this home, from a first one on
abbrev pub is_one_of : ℕ → ℕ → ℕ → Loc → ℕ → ℕ → Loc → Bool
is_one_of first_site first width at site k home =
    (first_site == site)
    && ((nat_lt k (first + width) && nat_lt first (k + 1)) && same_loc at home)

abbrev pub has_channel : Told → ℕ → ℕ → Loc → Bool
has_channel d site k home =
    is_one_of d.inst.chans.site d.inst.chans.k (length d.counts) d.inst.loc site k home

-- the first group, from number n on, with this channel, and the channel's place there
abbrev pub locate_from : ℕ → List Told → ℕ → ℕ → Loc → Option Spot
locate_from n [] site k home = None
locate_from n (d ∷ ds) site k home =
    cond (has_channel d site k home)
    (Some (record { group = n; chan = k - d.inst.chans.k }))
    (locate_from (n + 1) ds site k home)

abbrev pub locate : List Told → ℕ → ℕ → Loc → Option Spot
locate ds site k home = locate_from 0 ds site k home

abbrev pub counts_in : Option Told → List ℕ
counts_in None = []
counts_in (Some d) = d.counts

abbrev pub is_count : Option ℕ → ℕ → Bool
is_count None count = false
is_count (Some n) count = n == count

-- the queue, where messages of this count go into it
abbrev pub on_count : Option ℕ → ℕ → Spot → Option Spot
on_count own count t = cond (is_count own count) (Some t) None

abbrev pub with_count : List Told → ℕ → Option Spot → Option Spot
with_count ds count None = None
with_count ds count (Some t) =
    on_count (slice_get (counts_in (slice_get ds t.group)) t.chan) count t

abbrev pub spot_on : List Told → Name → ℕ → Option Spot
spot_on ds (name.Seen i) count = None
spot_on ds (name.Place l) count = None
spot_on ds (name.Num n) count = None
spot_on ds (name.Op i) count = None
spot_on ds (name.Chan site k home) count = with_count ds count (locate ds site k home)

-- the queue that takes a message
abbrev pub spot_of : List Told → MessageParts → Option Spot
spot_of ds m = spot_on ds m.on (length m.args)

-- ---- the index

-- the serial of the first group with this channel, and the channel's place there
abbrev pub mark_in : List ℕ → List Told → ℕ → ℕ → Loc → Option Mark
mark_in [] ds site k home = None
mark_in (s ∷ ss) [] site k home = None
mark_in (s ∷ ss) (d ∷ ds) site k home =
    cond (has_channel d site k home)
    (Some (record { serial = s; chan = k - d.inst.chans.k }))
    (mark_in ss ds site k home)

-- the first of these is at least `least`, each other one more than those before it, and `next` more
-- than all
abbrev pub Rise : ℕ → List ℕ → ℕ → Type 0
Rise least [] next = least ≤ next
Rise least (s ∷ ss) next = (least ≤ s) × Rise (suc s) ss next

-- how many of them are below a number, where they rise
abbrev pub place_of : ℕ → List ℕ → ℕ
place_of n [] = 0
place_of n (s ∷ ss) = cond (nat_lt s n) (suc (place_of n ss)) 0

-- each group has a serial, and these rise; it has exactly the channels of the groups, which are
-- apart; and each queue holds messages on its channel with its count
pub record IsIndex (spots : Spots) (gs : List Group) : Type 0 where
  pub many : length spots.serials.items ≡ length gs
  pub rise : Rise 0 spots.serials.items spots.next
  pub named :
      (site k : ℕ) (home : Loc)
      → get same_key spots.marks (key_of site k home)
      ≡ mark_in spots.serials.items (told_in gs) site k home
  pub queues : Each (λ (g : Group). AreQueues g.told.inst 0 g.told.counts g.queues) gs
  pub apart : AreApart (told_in gs)

-- there is room for so many groups more, which have so many channels
pub record HasRoom (spots : Spots) (groups channels : ℕ) : Type 0 where
  pub serials : groups ≤ vec_capacity spots.serials - vec_len spots.serials
  pub numbers : spots.next + groups < 2 ^ 64
  pub marks : channels ≤ spare spots.marks
