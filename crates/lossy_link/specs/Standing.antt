-- A network over links, and the numbered solution for which it stands: that of the network with the
-- packets under way that aren't delivered yet.
use Rattle.std.specs.Prelude.{◌≡◌, ℕ, ◌+◌, cond, List, map, Option, Some, slice_get, length}
use Rattle.chem_model.specs.declared.event.Event.{Event}
use Rattle.chem_model.specs.declared.numbered.NumberedRule.{NumberedRule}
use Rattle.chem_model.specs.declared.numbered.Numbered.{Numbered}
use Rattle.wire_packet.specs.GroupFacts.{GroupParts}
use Rattle.loc_tree.specs.Tree.{Tree}
use Rattle.net_laws.specs.Net.{Addressed, Net, Stands}
use Rattle.net_core.specs.Falling.{is_misdirected}
use Rattle.net_core.specs.Laws.{IsLedFrom}
use Rattle.net_core.specs.Parts.{carried}
use Rattle.net_core.specs.UnderWay.{with_packets}
use Rattle.net_core.specs.Whole.{NetParts}
use Rattle.net_core.specs.declared.drained.FlightFrom.{FlightFrom}
use Rattle.lossy_link.specs.declared.frame.Frame.TheVariants.{Data}
use Rattle.lossy_link.specs.declared.line.Line.{Line}
use Rattle.lossy_link.specs.Lines.{line_of}
use Rattle.lossy_link.specs.Links.{Links}
use Rattle.lossy_link.specs.Pending.{pending, weight}

-- packets as messages under way
abbrev pub flights : List FlightFrom → List Addressed
flights ps = map (λ (p : FlightFrom). carried p.flight) ps

-- the network with what the lines still have to deliver under way
abbrev pub whole_net : Net → List Line → Net
whole_net net ls = with_packets (flights (pending ls)) net

abbrev pub net_of_links : Links NetParts → Net
net_of_links l = whole_net l.net.net l.lines

-- the links stand for the solution
abbrev pub LinksStand : (GroupParts → List NumberedRule) → Links NetParts → Numbered → Type 0
LinksStand rules_of l n = Stands rules_of (net_of_links l) n

-- of each solution for which the links stood they stand for what the event leads to, or without one
-- for the same
abbrev pub LinksLead : Links NetParts → Option Event → Links NetParts → Type 0
LinksLead old o new = IsLedFrom (net_of_links old) o (net_of_links new) old.net.code

-- ---- how many deliveries can follow one another

-- one of each packet, and one before it where the packet goes to another site than the one that
-- hosts its home
abbrev pub weighs : Tree → FlightFrom → ℕ
weighs t p = 1 + cond (is_misdirected t (carried p.flight)) 1 0

abbrev pub deliveries_over : Links NetParts → ℕ
deliveries_over l = weight (weighs l.net.net.tree) (pending l.lines)

-- where the frame at this place is a packet with its receiver's next number, its arrival leaves one
-- delivery less
abbrev pub ReceiptFalls : Links NetParts → ℕ → Links NetParts → Type 0
ReceiptFalls old i new =
    (f t n : ℕ) (bytes : List ℕ) → slice_get old.wire i ≡ Some (Data f t n bytes)
    → n ≡ length (line_of f t old.lines).history.handed
    → deliveries_over old ≡ deliveries_over new + 1
