-- Limits within which all stands that a site holds and names.
use Rattle.std.specs.Prelude.{◌≡◌, ◌≤◌, ℕ, Bool, true, ◌&&◌, nat_lt, List}
use Rattle.std.specs.List.{list_all}
use Rattle.chem_model.specs.declared.name.Loc.{Loc}
use Rattle.chem_model.specs.declared.event.AtomId.{AtomId}
use Rattle.wire_packet.specs.MessageFacts.{MessageParts}
use Rattle.wire_packet.specs.declared.packet.Waiting.{Waiting}
use Rattle.wire_packet.specs.GroupFacts.{RequestParts}
use Rattle.net_laws.specs.Site.{Told, Group, Site}
use Rattle.site_shelves.specs.Named.{names_in, message_in, request_in}
use Rattle.site_shelves.specs.Draws.{is_drawn, told_drawn}

-- the locations that may be named; of each site the first number that none of its atoms has; the
-- first number that no location, rule or channel has which the site itself made; and the groups
-- that may be laid
pub record Limits : Type 0 where
  pub known : Loc → Bool
  pub after : ℕ → ℕ
  pub drawn : ℕ
  pub shaped : Told → Bool

-- the second are no narrower
pub record IsWider (a b : Limits) : Type 0 where
  pub known : (l : Loc) → a.known l ≡ true → b.known l ≡ true
  pub after : (i : ℕ) → a.after i ≤ b.after i
  pub drawn : a.drawn ≤ b.drawn
  pub shaped : (d : Told) → a.shaped d ≡ true → b.shaped d ≡ true

module _ (b : Limits) where
  abbrev pub is_before : AtomId → Bool
  is_before i = nat_lt i.k (b.after i.site)

  abbrev pub message_within : MessageParts → Bool
  message_within m = is_before m.id && message_in b.known m

  abbrev pub request_within : RequestParts → Bool
  request_within q = is_before q.id && request_in b.known q

  -- of the site with this number
  module _ (number : ℕ) where
    abbrev pub loc_within : Loc → Bool
    loc_within l = is_drawn number b.drawn l.site l.k

    abbrev pub told_within : Told → Bool
    told_within d = told_drawn number b.drawn d && (names_in b.known d.inst.env && b.shaped d)

    abbrev pub group_within : Group → Bool
    group_within g = told_within g.told && list_all (list_all message_within) g.queues

    -- all that it holds
    pub record IsWithin (s : Site) : Type 0 where
      pub locs : list_all loc_within s.locs ≡ true
      pub groups : list_all group_within s.groups ≡ true
      pub stuck : list_all (λ (w : Waiting). message_within w.msg) s.stuck ≡ true
      pub requests : list_all request_within s.requests ≡ true

    -- what comes to it
    pub record AreWithin (ls : List Loc) (ds : List Told) (ws : List Waiting)
        (qs : List RequestParts) : Type 0 where
      pub locs : list_all loc_within ls ≡ true
      pub told : list_all told_within ds ≡ true
      pub waiting : list_all (λ (w : Waiting). message_within w.msg) ws ≡ true
      pub requests : list_all request_within qs ≡ true
