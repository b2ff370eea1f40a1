-- Links whose network has handed out its packets stand for what it stood for.
use Rattle.std.proofs.Common.{◌≡◌, List, [], None, sym, ap, subst}
use Rattle.env_store.specs.CodeFacts.{IsCode}
use Rattle.env_store.specs.CodeParts.{CodeParts}
use Rattle.net_core.specs.Drained.{AreHandedOut}
use Rattle.net_core.specs.Laws.{IsLedFrom}
use Rattle.net_core.specs.Whole.{NetParts, RunsSome}
use Rattle.net_core.specs.declared.drained.FlightFrom.{FlightFrom}
use Rattle.lossy_link.specs.declared.line.Line.{Line}
use Rattle.lossy_link.specs.Lines.{all_sent, AreFine}
use Rattle.lossy_link.specs.Links.{Links}
use Rattle.lossy_link.specs.Standing.{net_of_links}
use Rattle.lossy_link.specs.Whole.{HasStarted, IsWhole}
use Rattle.lossy_link.proofs.Keeping.{used_all, spelled_all}
use Rattle.lossy_link.proofs.LineLaws.{all_sent_fine, no_line_fine}
use Rattle.lossy_link.proofs.Standing.{out_led, some_led}

none_fine : AreFine []
none_fine f t = no_line_fine f t

module _ (net now : NetParts) (packets : List FlightFrom) (h : AreHandedOut net packets now) where
  abbrev lines : List Line
  lines = all_sent packets []

  abbrev begun : Links NetParts
  begun = record { net = now; wire = []; lines = lines }

  begun_leads : IsLedFrom net.net None (net_of_links begun) net.code
  begun_leads p n is of stands runs =
      out_led net.code net now packets [] none_fine h p n None
      (record { leads = stands; runs = runs })

  begun_whole : IsCode net.code → RunsSome net.code net.net → IsWhole begun
  begun_whole code some =
      let same : now.code ≡ net.code = ap (λ (m : NetParts). m.code) h.left in
      record {
        sound = record { fine = all_sent_fine packets [] none_fine; wire = tt };
        used = used_all packets [] tt;
        spelled = spelled_all packets [] h.spelled tt;
        code = subst IsCode (sym same) code;
        drained = ap (λ (m : NetParts). m.net.packets) h.left;
        no_froms = ap (λ (m : NetParts). m.froms) h.left;
        stands = subst (λ (c : CodeParts). RunsSome c (net_of_links begun)) (sym same)
            (some_led net.code net.net (net_of_links begun) None some begun_leads);
      }

-- the links that start
module _ (net : NetParts) (l : Links NetParts) (h : HasStarted net l) where
  is_begun : l ≡ begun net l.net h.packets h.handed_out
  is_begun = λ i. record { net = l.net; wire = h.wire i; lines = h.lines i }

  pub started_leads : IsLedFrom net.net None (net_of_links l) net.code
  started_leads =
      subst (λ (k : Links NetParts). IsLedFrom net.net None (net_of_links k) net.code)
      (sym is_begun) (begun_leads net l.net h.packets h.handed_out)

  pub started_whole : IsCode net.code → RunsSome net.code net.net → IsWhole l
  started_whole code some =
      subst IsWhole (sym is_begun) (begun_whole net l.net h.packets h.handed_out code some)
