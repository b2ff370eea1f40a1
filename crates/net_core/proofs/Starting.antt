-- What the openings of sites hand out leads to the opened network.
use Rattle.std.proofs.Common.{◌≡◌, ℕ, suc, ◌+◌, ◌<◌, ◌^◌, List, [], ◌∷◌, ◌++◌, length, replicate}
use Rattle.std.proofs.Common.{Option, Some, None, refl, sym, ap, ◌∙◌, subst, arith, length-append}
use Rattle.std.proofs.Common.{append_assoc}
use Rattle.std.specs.Prelude.{IsTrue, IsSome}
use Rattle.std.proofs.lemmas.List.{length-replicate}
use Rattle.chem_model.specs.declared.event.Out.{Out}
use Rattle.chem_model.specs.Each.{Each}
use Rattle.chem_model.specs.ProgramFacts.{ProgramTerms, IsProgram}
use Rattle.chem_model.specs.Opening.{opening}
use Rattle.chem_laws.proofs.Lists.{Each-append, Each-weaker, append_nil}
use Rattle.env_store.specs.declared.code.SiteCode.{SiteCode}
use Rattle.env_store.specs.CodeParts.{CodeParts}
use Rattle.env_store.specs.CodeFacts.{IsCode}
use Rattle.env_store.specs.Reading.{IsCodeOf}
use Rattle.env_store.specs.Running.{site_made}
use Rattle.env_store.specs.Laws.{rules_of_group}
use Rattle.wire_packet.specs.declared.packet.Flight.{Flight}
use Rattle.loc_tree.specs.Tree.{Tree, bare}
use Rattle.net_laws.specs.Site.{Site}
use Rattle.net_laws.specs.Net.{Addressed, Net, Stands}
use Rattle.net_laws.specs.Opened.{opened_by, with_opened, all_opened, opened_net, unopened}
use Rattle.net_laws.specs.Opened.{RunsCode}
use Rattle.net_laws.proofs.Opened.{opened_stands}
use Rattle.site_solution.specs.InTree.{is_in_tree}
use Rattle.site_solution.specs.InCode.{is_in_code}
use Rattle.site_solution.specs.Draws.{CanDraw}
use Rattle.site_solution.specs.Staying.{CanAct}
use Rattle.site_solution.specs.declared.effects.Effects.{Effects}
use Rattle.site_turn.specs.Opening.{AreHanded, AreOpened}
use Rattle.site_turn.specs.declared.opening.OpenedSites.{OpenedSites}
use Rattle.site_turn.proofs.Openings.{opened_long}
use Rattle.net_core.specs.declared.parts.Parts.{Parts}
use Rattle.net_core.specs.declared.senders.Run.{Run}
use Rattle.net_core.specs.Parts.{joined, all_carried, IsMessageFlight, net_of}
use Rattle.net_core.specs.Whole.{AllFit, IsWhole}
use Rattle.net_core.specs.Rising.{AllMade}
use Rattle.net_core.specs.Senders.{opened_from, opened_froms}
use Rattle.net_core.specs.inside.Runs.{spread}
use Rattle.net_core.specs.inside.Starting.{AreBehind, all_outs, all_sends, all_froms}
use Rattle.net_core.proofs.Carrying.{carried_append, all_carry}
use Rattle.net_core.proofs.Deliveries.{same_net}
use Rattle.net_core.proofs.Fitting.{fit_bare}
use Rattle.net_core.proofs.Handed.{flights_long}

-- ---- one after another

pub none_behind : (p : Parts) (runs : List Run) → AreBehind [] [] [] p runs p runs
none_behind p runs = record {
  version = refl;
  sites = refl;
  tree = refl;
  trace = sym (append_nil (joined p.trace.items));
  flights = sym (append_nil p.flights.items);
  count = omega arith;
  few = λ h. h;
  sent = sym (append_nil (spread runs));
}

pub behind_more : (os os' : List Out) (fs fs' : List Flight) (is is' : List ℕ) (p q r : Parts)
    (xs ys zs : List Run) → AreBehind os fs is p xs q ys → AreBehind os' fs' is' q ys r zs
    → AreBehind (os ++ os') (fs ++ fs') (is ++ is') p xs r zs
behind_more os os' fs fs' is is' p q r xs ys zs h k = record {
  version = k.version ∙ h.version;
  sites = k.sites ∙ h.sites;
  tree = k.tree ∙ h.tree;
  trace = k.trace ∙ ap (λ (more : List Out). more ++ os') h.trace
      ∙ append_assoc (joined p.trace.items) os os';
  flights = k.flights ∙ ap (λ (more : List Flight). more ++ fs') h.flights
      ∙ append_assoc p.flights.items fs fs';
  count = omega (arith, h.count, k.count, length-append fs fs');
  few = λ low. k.few (h.few low);
  sent = k.sent ∙ ap (λ (more : List ℕ). more ++ is') h.sent ∙ append_assoc (spread xs) is is';
}

pub none_of : {X : Type 0} (xs : List X) → length xs ≡ 0 → xs ≡ []
none_of [] e = refl
none_of (x ∷ xs) e = absurd (omega arith)

pub none_some : {X : Type 0} (o : Option X) → o ≡ None → IsSome o → ⊥
none_some None e h = cc
none_some (Some x) e h = cc

-- ---- what all hand out is what the opened network has

module _ (c : CodeParts) where
  handed_outs : (i : ℕ) (sites : List SiteCode) (net : Net) (es : List Effects)
      → AreHanded c i sites net.tree es → net.trace ++ all_outs es ≡ (all_opened c i sites net).trace
  handed_outs i [] net [] h = append_nil net.trace
  handed_outs i [] net (e ∷ es) h = absurd h
  handed_outs i (site ∷ sites) net [] h = absurd h
  handed_outs i (site ∷ sites) net (e ∷ es) h =
      ap (λ (os : List Out). net.trace ++ (os ++ all_outs es)) h.0
      ∙ sym (append_assoc net.trace (site_made c i site).outs (all_outs es))
      ∙ handed_outs (i + 1) sites (with_opened c i site net) es h.2

  handed_packets : (i : ℕ) (sites : List SiteCode) (net : Net) (es : List Effects)
      → AreHanded c i sites net.tree es
      → net.packets ++ all_carried (all_sends es) ≡ (all_opened c i sites net).packets
  handed_packets i [] net [] h = append_nil net.packets
  handed_packets i [] net (e ∷ es) h = absurd h
  handed_packets i (site ∷ sites) net [] h = absurd h
  handed_packets i (site ∷ sites) net (e ∷ es) h =
      let sends = (opened_by c net.tree i site).sends in
      ap (λ (ps : List Addressed). net.packets ++ ps) (carried_append e.sends (all_sends es))
      ∙ ap (λ (ps : List Addressed). net.packets ++ (ps ++ all_carried (all_sends es)))
      (all_carry sends e.sends h.1).0
      ∙ sym (append_assoc net.packets sends (all_carried (all_sends es)))
      ∙ handed_packets (i + 1) sites (with_opened c i site net) es h.2

  handed_spelled : (i : ℕ) (sites : List SiteCode) (t : Tree) (es : List Effects)
      → AreHanded c i sites t es → Each IsMessageFlight (all_sends es)
  handed_spelled i [] t [] h = tt
  handed_spelled i [] t (e ∷ es) h = absurd h
  handed_spelled i (site ∷ sites) t [] h = absurd h
  handed_spelled i (site ∷ sites) t (e ∷ es) h =
      Each-append IsMessageFlight e.sends (all_sends es)
      (all_carry (opened_by c t i site).sends e.sends h.1).1
      (handed_spelled (i + 1) sites _ es h.2)

  handed_froms : (i : ℕ) (sites : List SiteCode) (net : Net) (es : List Effects)
      → AreHanded c i sites net.tree es → all_froms i es ≡ opened_from c i sites net
  handed_froms i [] net [] h = refl
  handed_froms i [] net (e ∷ es) h = absurd h
  handed_froms i (site ∷ sites) net [] h = absurd h
  handed_froms i (site ∷ sites) net (e ∷ es) h =
      ap (λ (k : ℕ). replicate k i ++ all_froms (i + 1) es)
      (flights_long (opened_by c net.tree i site).sends e.sends h.1)
      ∙ ap (λ (is : List ℕ). replicate (length (opened_by c net.tree i site).sends) i ++ is)
      (handed_froms (i + 1) sites (with_opened c i site net) es h.2)

  pub handed_long : (i : ℕ) (sites : List SiteCode) (t : Tree) (es : List Effects)
      → AreHanded c i sites t es → length es ≡ length sites
  handed_long i [] t [] h = refl
  handed_long i [] t (e ∷ es) h = absurd h
  handed_long i (site ∷ sites) t [] h = absurd h
  handed_long i (site ∷ sites) t (e ∷ es) h =
      ap suc (handed_long (i + 1) sites _ es h.2)

  -- the version and what is observed stay
  kept_all : (i : ℕ) (sites : List SiteCode) (net : Net)
      → (net.version ≡ (all_opened c i sites net).version)
      × (net.seen ≡ (all_opened c i sites net).seen)
  kept_all i [] net = (refl, refl)
  kept_all i (site ∷ sites) net = kept_all (i + 1) sites (with_opened c i site net)

froms_long : (i : ℕ) (es : List Effects) → length (all_froms i es) ≡ length (all_sends es)
froms_long i [] = refl
froms_long i (e ∷ es) = omega (
  arith,
  length-append (replicate (length e.sends) i) (all_froms (i + 1) es),
  length-replicate (length e.sends) i,
  froms_long (i + 1) es,
  length-append e.sends (all_sends es),
)

-- ---- the network that is opened

all_fit : (c : CodeParts) (t : Tree) (sites : List Site) → Each (CanAct c t) sites
    → AllFit c t sites
all_fit c t sites h = record {
  in_tree = Each-weaker (CanAct c t) (λ (s : Site). IsTrue (is_in_tree t s))
      (λ s d. d.in_tree) sites h;
  in_code = Each-weaker (CanAct c t) (λ (s : Site). IsTrue (is_in_code c t s))
      (λ s d. d.in_code) sites h;
  draws = Each-weaker (CanAct c t) (CanDraw t) (λ s d. d.draws) sites h;
}

-- the parts are those of the opened network, and all is known of them that a network keeps
pub record IsStarted (q : ProgramTerms) (c : CodeParts) (p : Parts) (senders : List Run)
    : Type 0 where
  pub net : net_of c.seen p ≡ opened_net q.version c
  pub froms : spread senders ≡ opened_froms q.version c
  pub whole : IsWhole c p 0
  pub sent : length (spread senders) ≡ p.under_way
  pub stands : Stands (rules_of_group q) (net_of c.seen p) (opening q)
  pub runs : RunsCode q c (net_of c.seen p)

module _ (q : ProgramTerms) (c : CodeParts) (ok : IsProgram q) (kept : IsCode c)
    (is : IsCodeOf q c) (o : OpenedSites) (opened : AreOpened q.version c o) (first p : Parts)
    (version : first.version ≡ q.version) (sites : first.sites ≡ o.sites)
    (tree : first.tree ≡ o.tree) (trace : first.trace.items ≡ [])
    (flights : first.flights.items ≡ []) (under : first.under_way ≡ 0) (was runs : List Run)
    (none : was ≡ [])
    (out : AreBehind (all_outs o.handed.items) (all_sends o.handed.items)
    (all_froms 0 o.handed.items) first was p runs) where
  sites_are : p.sites.items ≡ o.sites.items
  sites_are = ap (λ ss. ss.items) (out.sites ∙ sites)

  tree_is : p.tree ≡ o.tree
  tree_is = out.tree ∙ tree

  flights_are : p.flights.items ≡ all_sends o.handed.items
  flights_are = out.flights ∙ ap (λ (fs : List Flight). fs ++ all_sends o.handed.items) flights

  net_is : net_of c.seen p ≡ opened_net q.version c
  net_is = same_net (net_of c.seen p) (opened_net q.version c) (out.version ∙ version ∙ same.0)
      same.1 (sites_are ∙ opened.sites)
      (ap bare tree_is ∙ opened.tree)
      (out.trace
      ∙ ap (λ (os : List (List Out)). joined os ++ all_outs o.handed.items) trace
      ∙ handed_outs c 0 c.sites (unopened q.version c) o.handed.items opened.handed)
      (ap all_carried flights_are
      ∙ handed_packets c 0 c.sites (unopened q.version c) o.handed.items opened.handed)
    where
      same : (q.version ≡ (opened_net q.version c).version) × (c.seen ≡ (opened_net q.version c).seen)
      same = kept_all c 0 c.sites (unopened q.version c)

  froms_are : spread runs ≡ opened_froms q.version c
  froms_are = out.sent
      ∙ ap (λ (rs : List Run). spread rs ++ all_froms 0 o.handed.items) none
      ∙ handed_froms c 0 c.sites (unopened q.version c) o.handed.items opened.handed

  -- so it is whole, and stands for the program's opening
  opened_whole : length c.sites < 2 ^ 32 → IsWhole c p 0
  opened_whole few =
      let stands = opened_stands q c ok kept is in
      record {
        running = record {
          code = kept;
          some = record {
            program = q;
            is_program = ok;
            of_program = is;
            solution = opening q;
            stands = subst (λ (net : Net). Stands (rules_of_group q) net (opening q)) (sym net_is)
                stands.0;
            runs = subst (RunsCode q c) (sym net_is) stands.1;
          };
          fit = fit_bare c p.tree p.sites.items (subst (λ (t : Tree). AllFit c t p.sites.items)
              (sym tree_is) (subst (AllFit c o.tree) (sym sites_are)
              (all_fit c o.tree o.sites.items opened.fit)));
          few_sites = omega (
            arith,
            few,
            ap length (sites_are ∙ opened.sites),
            opened_long c 0 c.sites (unopened q.version c),
          );
          made = subst (AllMade 1048576) (sym net_is) stands.2;
        };
        flying = record {
          spelled = subst (Each IsMessageFlight) (sym flights_are)
              (handed_spelled c 0 c.sites _ o.handed.items opened.handed);
          counted = omega (arith, out.count, under, ap length flights_are);
          few = out.few (omega (arith, under));
        };
      }

  sent_all : length (spread runs) ≡ p.under_way
  sent_all = omega (
    arith,
    ap length (out.sent ∙ ap (λ (rs : List Run). spread rs ++ all_froms 0 o.handed.items) none),
    froms_long 0 o.handed.items,
    out.count,
    under,
  )

  opened_is : Stands (rules_of_group q) (net_of c.seen p) (opening q)
  opened_is = subst (λ (net : Net). Stands (rules_of_group q) net (opening q)) (sym net_is)
      (opened_stands q c ok kept is).0

  opened_runs : RunsCode q c (net_of c.seen p)
  opened_runs = subst (RunsCode q c) (sym net_is) (opened_stands q c ok kept is).1

  pub started : length c.sites < 2 ^ 32 → IsStarted q c p runs
  started few = record {
    net = net_is;
    froms = froms_are;
    whole = opened_whole few;
    sent = sent_all;
    stands = opened_is;
    runs = opened_runs;
  }
