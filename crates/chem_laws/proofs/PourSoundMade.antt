-- What a piece that is made is like, and how two pieces join.
use Rattle.std.proofs.Common.{◌≡◌, ℕ, ◌+◌, ◌<◌, ◌≤◌, List, [], ◌∷◌, ◌++◌, Some, refl, ap, ◌∙◌}
use Rattle.std.proofs.Common.{arith, length}
use Rattle.chem_model.specs.declared.name.Loc.{Loc}
use Rattle.chem_model.specs.declared.event.Out.{Out}
use Rattle.chem_model.specs.declared.numbered.Named.{Named}
use Rattle.chem_model.specs.declared.numbered.Placed.{Placed}
use Rattle.chem_model.specs.declared.numbered.NumberedRule.{NumberedRule}
use Rattle.chem_model.specs.declared.numbered.NumberedAtom.{NumberedAtom}
use Rattle.chem_model.specs.declared.numbered.Numbered.{Numbered}
use Rattle.chem_model.specs.declared.numbered.Made.{Made}
use Rattle.chem_model.specs.Bag.{bag}
use Rattle.chem_model.specs.Each.{Each}
use Rattle.chem_model.specs.Fill.{Naming}
use Rattle.chem_model.specs.NewNames.{Pair, coded_pair}
use Rattle.chem_model.specs.Numbered.{rule_pairs, atom_pairs, pairs_in}
use Rattle.chem_model.specs.Pour.{nothing_made, then_made}
use Rattle.chem_model.specs.Sound.{IsNameOf, IsRule, IsAtom}
use Rattle.chem_laws.proofs.Lists.{Each-append}
use Rattle.chem_laws.proofs.Bags.{bag-append}
use Rattle.chem_laws.proofs.Places.{place_pairs-append}
use Rattle.chem_laws.proofs.Parts.{in_range}
use Rattle.chem_laws.proofs.NamingRange.{in_range_joins, in_range_empty, channel_pairs-append}

-- ---- the pairs of two pieces

rules_append : (xs ys : List NumberedRule) → rule_pairs (xs ++ ys) ≡ rule_pairs xs ++ rule_pairs ys
rules_append [] ys = refl
rules_append (x ∷ xs) ys = ap (λ ps. (x.id.site, x.id.k) ∷ ps) (rules_append xs ys)

pub atoms_append : (xs ys : List NumberedAtom)
    → atom_pairs (xs ++ ys) ≡ atom_pairs xs ++ atom_pairs ys
atoms_append [] ys = refl
atoms_append (x ∷ xs) ys = ap (λ ps. (x.id.site, x.id.k) ∷ ps) (atoms_append xs ys)

pub pairs_in-append :
    (bs cs : List Placed) (m n : Naming) (rs qs : List NumberedRule) (xs ys : List NumberedAtom)
    (p : Pair)
    → pairs_in (bs ++ cs) (m ++ n) (rs ++ qs) (xs ++ ys) p
    ≡ pairs_in bs m rs xs p + pairs_in cs n qs ys p
pairs_in-append bs cs m n rs qs xs ys p =
    let b = place_pairs-append bs cs p in
    let c = channel_pairs-append m n p in
    let r = ap (λ ps. bag coded_pair ps p) (rules_append rs qs)
    ∙ bag-append coded_pair (rule_pairs rs) (rule_pairs qs) p in
    let a = ap (λ ps. bag coded_pair ps p) (atoms_append xs ys)
    ∙ bag-append coded_pair (atom_pairs xs) (atom_pairs ys) p in
    omega (arith, b, c, r, a)

-- ---- a piece

abbrev pub AreNamesOf : Numbered → Naming → Type 0
AreNamesOf n = Each (λ (e : Named). IsNameOf n e.name)

abbrev pub IsOut : Numbered → Out → Type 0
IsOut n o = (o.on < length n.seen) × Each (IsNameOf n) o.args

abbrev pub HasHost : Loc → Placed → Type 0
HasHost r b = b.host ≡ Some r

-- a piece made at site s under the root r from the number k on, where n is the solution that
-- results
pub record IsMade (n : Numbered) (s : ℕ) (r : Loc) (k : ℕ) (a : Made) : Type 0 where
  pub up : k ≤ a.next
  -- each number from k on was drawn once
  pub range : (p : Pair) → pairs_in a.births a.named a.rules a.atoms p ≡ in_range s k a.next p
  pub hosts : Each (HasHost r) a.births
  pub named : AreNamesOf n a.named
  pub rules : Each (IsRule n) a.rules
  pub atoms : Each (IsAtom n) a.atoms
  pub outs : Each (IsOut n) a.outs

module _ (n : Numbered) (s : ℕ) (r : Loc) where
  pub nothing_is : (k : ℕ) → IsMade n s r k (nothing_made k)
  nothing_is k = record {
    up = omega arith;
    range = λ p. let e = in_range_empty s k p in omega arith;
    hosts = tt;
    named = tt;
    rules = tt;
    atoms = tt;
    outs = tt;
  }

  pub then_is : (k : ℕ) (a b : Made) → IsMade n s r k a → IsMade n s r a.next b
      → IsMade n s r k (then_made a b)
  then_is k a b p q =
      let low = p.up in let high = q.up in
      record {
        up = omega arith;
        range = λ x.
            let split =
            pairs_in-append a.births b.births a.named b.named a.rules b.rules a.atoms b.atoms x in
            let first = p.range x in
            let second = q.range x in
            let whole = in_range_joins s k a.next b.next x p.up q.up in
            split ∙ (λ i. first i + second i) ∙ whole;
        hosts = Each-append (HasHost r) a.births b.births p.hosts q.hosts;
        named = Each-append (λ (e : Named). IsNameOf n e.name) a.named b.named p.named q.named;
        rules = Each-append (IsRule n) a.rules b.rules p.rules q.rules;
        atoms = Each-append (IsAtom n) a.atoms b.atoms p.atoms q.atoms;
        outs = Each-append (IsOut n) a.outs b.outs p.outs q.outs;
      }
