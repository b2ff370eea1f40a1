-- With fewer messages under way, or with the same in another order, a network still stands for a
-- sound numbered solution.
use Rattle.std.proofs.Common.{◌≡◌, ℕ, ◌+◌, ◌<◌, ◌≤◌, List, [], ◌∷◌, ◌++◌, Some, refl, sym, ap, ◌∙◌}
use Rattle.std.proofs.Common.{arith}
use Rattle.chem_model.specs.declared.numbered.NumberedRule.{NumberedRule}
use Rattle.chem_model.specs.declared.numbered.NumberedAtom.{NumberedAtom}
use Rattle.chem_model.specs.declared.numbered.Numbered.{Numbered}
use Rattle.chem_model.specs.Bag.{one, bag}
use Rattle.chem_model.specs.NewNames.{Pair, coded_pair}
use Rattle.chem_model.specs.Numbered.{atom_pairs}
use Rattle.chem_model.specs.Opening.{root_of}
use Rattle.chem_model.specs.Apply.{atom_at, without}
use Rattle.chem_model.specs.Sound.{IsAtom}
use Rattle.chem_laws.proofs.Requests.{left_sound}
use Rattle.chem_laws.proofs.Taking.{Each-without, pairs-without}
use Rattle.chem_laws.proofs.Bags.{one_self}
use Rattle.wire_packet.specs.GroupFacts.{GroupParts}
use Rattle.net_laws.specs.Site.{coded_atom, message_atom}
use Rattle.net_laws.specs.Net.{Addressed, Net, Stands, home_or, under_way, all_atoms}
use Rattle.net_core.specs.UnderWay.{with_packets}
use Rattle.net_laws.proofs.Found.{atom_in, bag_without}

-- the atom for which a message under way stands
abbrev pub flying : Addressed → NumberedAtom
flying p = message_atom (home_or (root_of p.target) p.msg.on) p.msg

module _ (rules_of : GroupParts → List NumberedRule) where
  pub record SomeStands (net : Net) : Type 0 where
    pub solution : Numbered
    pub stands : Stands rules_of net solution

  -- the same messages in another order
  pub stands_alike : (net : Net) (n : Numbered) (qs : List Addressed) → Stands rules_of net n
      → ((a : NumberedAtom) → under_way qs a ≡ under_way net.packets a)
      → Stands rules_of (with_packets qs net) n
  stands_alike net n qs stands same = record {
    sound = stands.sound;
    agrees = record {
      version = stands.agrees.version;
      seen = stands.agrees.seen;
      counts = stands.agrees.counts;
      tree = stands.agrees.tree;
      rules = stands.agrees.rules;
      atoms = λ a. stands.agrees.atoms a ∙ ap (λ (m : ℕ). all_atoms net.sites a + m) (sym (same a));
      trace = stands.agrees.trace;
    };
    hosts = stands.hosts;
  }

  -- without the first one
  stands_without : (net : Net) (n : Numbered) (p : Addressed) (ps : List Addressed)
      → net.packets ≡ p ∷ ps → Stands rules_of net n
      → Stands rules_of (with_packets ps net) (record n { atoms = without p.msg.id n.atoms })
  stands_without net n p ps is stands =
      let a = flying p in
      let mine : (x : NumberedAtom)
      → bag coded_atom n.atoms x ≡ all_atoms net.sites x + (one coded_atom a x + under_way ps x) =
      λ x. stands.agrees.atoms x
      ∙ ap (λ (qs : List Addressed). all_atoms net.sites x + under_way qs x) is in
      let self : one coded_atom a a ≡ 1 = one_self coded_atom a in
      let more : 0 < bag coded_atom n.atoms a = let m = mine a in omega arith in
      let once : (q : Pair) → bag coded_pair (atom_pairs n.atoms) q ≤ 1 =
      λ q. let d = stands.sound.different q in omega arith in
      let found : atom_at n.atoms p.msg.id ≡ Some a = atom_in n.atoms a once more in
      record {
        sound = left_sound n stands.sound n.places (without p.msg.id n.atoms) (λ l. refl) refl
            (λ i h. (stands.sound.roots i h).1)
            stands.sound.hosted (Each-without (IsAtom n) p.msg.id n.atoms stands.sound.atoms)
            (pairs-without p.msg.id n.atoms);
        agrees = record {
          version = stands.agrees.version;
          seen = stands.agrees.seen;
          counts = stands.agrees.counts;
          tree = stands.agrees.tree;
          rules = stands.agrees.rules;
          atoms = λ x.
              let m = mine x in
              let w = bag_without n.atoms p.msg.id a x found in
              omega arith;
          trace = stands.agrees.trace;
        };
        hosts = stands.hosts;
      }

  -- without those in front
  pub some_stand : (ps : List Addressed) (net : Net) (n : Numbered) (qs : List Addressed)
      → Stands rules_of (with_packets (ps ++ qs) net) n → SomeStands (with_packets qs net)
  some_stand [] net n qs stands = record { solution = n; stands = stands }
  some_stand (p ∷ ps) net n qs stands =
      some_stand ps net (record n { atoms = without p.msg.id n.atoms }) qs
      (stands_without (with_packets (p ∷ ps ++ qs) net) n p (ps ++ qs) refl stands)
