-- What is poured or laid in a sound numbered solution is reached by heating, Comm, Out, Add and
-- Same alone.
use Rattle.std.proofs.Common.{◌≡◌, ℕ, ◌+◌, ◌<◌, List, [], true, refl, sym, subst, arith, inl, inr}
use Rattle.std.specs.Prelude.{slice_index}
use Rattle.chem_model.specs.declared.name.Loc.{Loc}
use Rattle.chem_model.specs.declared.name.Name.{Name}
use Rattle.chem_model.specs.declared.name.Name.TheVariants as name
use Rattle.chem_model.specs.declared.numbered.Named.{Named}
use Rattle.chem_model.specs.declared.numbered.Numbered.{Numbered}
use Rattle.chem_model.specs.declared.numbered.Made.{Made}
use Rattle.chem_model.specs.Process.{Process, Definition}
use Rattle.chem_model.specs.Bag.{one, ◌⊕◌, nothing}
use Rattle.chem_model.specs.Fill.{Naming, fill, fill_definitions}
use Rattle.chem_model.specs.Solution.{Places, Defs, Procs, coded_located_process, is_there, root}
use Rattle.chem_model.specs.Solution.{live}
use Rattle.chem_model.specs.OnNames.{OnProcess, OnDefinitions, OnSolution}
use Rattle.chem_model.specs.Reduction.{IsReached}
use Rattle.chem_model.specs.Numbered.{standing, erase}
use Rattle.chem_model.specs.Pour.{pour, lay, add_made}
use Rattle.chem_model.specs.Sound.{IsSound, IsNameOf, MayStand}
use Rattle.chem_laws.proofs.Stand.{stand_weaker, stand_on}
use Rattle.chem_laws.proofs.Lists.{Each-weaker, above}
use Rattle.chem_laws.proofs.Bags.{one_is}
use Rattle.chem_laws.proofs.Terms.{OnEntries, process_filled, definitions_filled, term_on}
use Rattle.chem_laws.proofs.Places.{live_parts, root_is, term_weaker, definitions_scope_weaker}
use Rattle.chem_laws.proofs.Places.{place_below, name_below, closes_weaker}
use Rattle.chem_laws.proofs.Parts.{Closes, NamingIs, BlockFilled, IsBelow, beside, Others}
use Rattle.chem_laws.proofs.Parts.{PourReached, LayReached, rules_left, bodies_left}
use Rattle.chem_laws.proofs.LevelLeft.{rules_on, bodies_on}
use Rattle.chem_laws.proofs.Reached.{chain_trans, state, reached_same, reached_again}
use Rattle.chem_laws.proofs.ReachedNumbers.{IsUnder, Under, LocUnder, ProcessUnder, DefinitionUnder}
use Rattle.chem_laws.proofs.ReachedNumbers.{pairs_weaker, solution_weaker, standing_born}
use Rattle.chem_laws.proofs.ReachedMade.{IsMade, pour_is, lay_is}
use Rattle.chem_laws.proofs.ReachedNames.{Fits}
use Rattle.chem_laws.proofs.ReachedPour.{defs_both, procs_both, Leads, Stands, pour_leads}
use Rattle.chem_laws.proofs.ReachedPour.{lay_leads}
use Rattle.chem_laws.proofs.ReachedBelow.{sound_below, level_on}

module _ (naming_is : NamingIs) (block_filled : BlockFilled) where
  module _ (n : Numbered) (sound : IsSound n) (m : Naming) (l : Loc)
      (is_live : live (standing n.places) l ≡ true) where
    abbrev map : Places
    map = standing n.places

    abbrev top : Loc
    top = root map l

    abbrev site : ℕ
    site = top.site

    abbrev count : ℕ
    count = slice_index n.counts site

    below_under : (t j : ℕ) → IsBelow n.counts t j → IsUnder site count t j
    below_under t j h = λ e. subst (λ (z : ℕ). j < slice_index n.counts z) e h.1

    place_under : (a : Loc) → is_there (map a) ≡ true → LocUnder site count a
    place_under a e = below_under a.site a.k (place_below n sound a e)

    name_under : (x : Name) → IsNameOf n x → Under site count x
    name_under x h =
        pairs_weaker (IsBelow n.counts) (IsUnder site count) below_under x (name_below n sound x h)

    name_fits : (x : Name) → IsNameOf n x → Fits map x
    name_fits (name.Seen i) h = tt
    name_fits (name.Place a) h = h
    name_fits (name.Chan s k q) h = h.1
    name_fits (name.Num i) h = tt
    name_fits (name.Op i) h = absurd h

    entries_under : (scope : List ℕ) → Closes (IsNameOf n) scope m → OnEntries (Under site count) m
    entries_under scope c = Each-weaker (λ (e : Named). IsNameOf n e.name)
        (λ (e : Named). Under site count e.name) (λ e. name_under e.name) m c.names

    stands : Stands n.seen site top map count l
    stands =
        let there = (live_parts map l is_live).0 in
        let top_there = (root_is n sound l there).1 in
        record {
          is_live = is_live;
          at_root = refl;
          root_there = top_there;
          loc = place_under l there;
          top = place_under top top_there;
        }

    -- the whole solution, beside what is poured or laid and the others
    start_under : (e d : Defs) (p q : Procs) → Others n d q
        → ((x : Loc × Definition) → 0 < e x → DefinitionUnder site count x)
        → ((x : Loc × Process) → 0 < p x → ProcessUnder site count x)
        → OnSolution (IsUnder site count)
        (state map (e ⊕ (d ⊕ (erase n).defs)) (p ⊕ (q ⊕ (erase n).procs)) n.trace)
    start_under e d p q others f g =
        let own = solution_weaker (IsBelow n.counts) (IsUnder site count) below_under (erase n)
        (sound_below n sound) in
        let more = solution_weaker (IsBelow n.counts) (IsUnder site count) below_under
        (state map d q []) others in
        record {
          places = own.places;
          defs = λ x c. elim (above (e x) (d x + (erase n).defs x) c) [
            | inl u ↦ f x u
            | inr u ↦ elim (above (d x) ((erase n).defs x)
                u) [ inl v ↦ more.defs x v | inr v ↦ own.defs x v ]
          ];
          procs = λ x c. elim (above (p x) (q x + (erase n).procs x) c) [
            | inl u ↦ g x u
            | inr u ↦ elim (above (q x) ((erase n).procs x)
                u) [ inl v ↦ more.procs x v | inr v ↦ own.procs x v ]
          ];
          trace = own.trace;
        }

    -- what is made, added to the numbered solution
    added : (e d : Defs) (p q : Procs) (a : Made) → Others n d q → IsMade site top count a
        → ((x : Loc × Definition) → 0 < e x → DefinitionUnder site count x)
        → ((x : Loc × Process) → 0 < p x → ProcessUnder site count x)
        → Leads n.seen site top map count e p a
        → IsReached n.seen (beside (add_made n site a) d q) (beside n (e ⊕ d) (p ⊕ q))
    added e d p q a others made f g leads =
        let own = (erase n).defs in
        let atoms = (erase n).procs in
        chain_trans (reached_again n.seen map ((e ⊕ d) ⊕ own) (e ⊕ (d ⊕ own)) ((p ⊕ q) ⊕ atoms)
        (p ⊕ (q ⊕ atoms)) n.trace (λ x. omega arith) (λ x. omega arith))
        (chain_trans (leads (d ⊕ own) (q ⊕ atoms) n.trace (start_under e d p q others f g))
        (reached_same n.seen _ _ _ _ _ _ _ _ (λ z.
        sym (standing_born site top count a.next n.places a.births z made.births (place_under z)))
        (λ x. omega (arith, defs_both n.rules a.rules x))
        (λ x. omega (arith, procs_both n.atoms a.atoms x)) refl))

  pub pour_reached : PourReached
  pour_reached n m l p d q sound h others =
      let r = root (standing n.places) l in
      let s = r.site in
      let k = slice_index n.counts s in
      let st = stands n sound m l h.is_live in
      let on : OnProcess (Under s k) (fill m p) =
      process_filled (Under s k) m (entries_under n sound m l h.is_live h.scope h.closes) p
      (term_on (MayStand (IsNameOf n)) (Under s k)
      (stand_on (IsUnder s k) (IsNameOf n) (name_under n sound m l h.is_live)) h.scope p h.term) in
      let fits = name_fits n sound m l h.is_live in
      let a = pour n.seen s r m l k p in
      let leads = pour_leads n.seen s r naming_is block_filled p (standing n.places) h.scope m l k
      st (term_weaker (MayStand (IsNameOf n)) (MayStand (Fits (standing n.places)))
      (stand_weaker (IsNameOf n) (Fits (standing n.places)) fits) h.scope p h.term)
      (closes_weaker (IsNameOf n) (Fits (standing n.places)) fits h.scope m h.closes) h.once on in
      let poured = one coded_located_process (l, fill m p) in
      chain_trans (reached_again n.seen (standing n.places) (d ⊕ (erase n).defs)
      ((nothing ⊕ d) ⊕ (erase n).defs) ((poured ⊕ q) ⊕ (erase n).procs)
      ((poured ⊕ q) ⊕ (erase n).procs) n.trace (λ x. omega arith) (λ x. refl))
      (added n sound m l h.is_live nothing d poured q a others
      (pour_is s r naming_is n.seen (MayStand (IsNameOf n)) p h.scope m l k h.term h.once st.loc on)
      (λ x c. absurd (omega arith)) (λ x c.
      subst (ProcessUnder s k) (one_is coded_located_process (l, fill m p) x c) (st.loc, on)) leads)

  pub lay_reached : LayReached
  lay_reached n m l ds d q sound h others =
      let r = root (standing n.places) l in
      let s = r.site in
      let k = slice_index n.counts s in
      let st = stands n sound m l h.is_live in
      let on : OnDefinitions (Under s k) (fill_definitions m ds) = definitions_filled (Under s k) m
      (entries_under n sound m l h.is_live h.scope h.closes) ds (level_on (MayStand (IsNameOf n))
      (Under s k) (stand_on (IsUnder s k) (IsNameOf n) (name_under n sound m l h.is_live))
      h.scope ds l m h.sorts h.terms) in
      let fits = name_fits n sound m l h.is_live in
      let leads = lay_leads n.seen s r naming_is block_filled ds (standing n.places) h.scope m l k
      st h.levels h.stand
      (definitions_scope_weaker (MayStand (IsNameOf n)) (MayStand (Fits (standing n.places)))
      (stand_weaker (IsNameOf n) (Fits (standing n.places)) fits) h.scope ds h.terms)
      (closes_weaker (IsNameOf n) (Fits (standing n.places)) fits h.scope m h.closes) h.once on in
      added n sound m l h.is_live (rules_left l m ds) d (bodies_left l m ds) q
      (lay n.seen s r m l k ds) others (lay_is s r naming_is n.seen (MayStand (IsNameOf n)) ds
      h.scope m l k h.terms h.once st.loc on) (rules_on (IsUnder s k) l m ds st.loc on)
      (bodies_on (IsUnder s k) l m ds st.loc on) leads
