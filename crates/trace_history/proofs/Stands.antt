-- What a key stands for: a rule at its site that is ready, or a request there that can be met. The
-- first that is found along keys in turn is the first of all candidates.
use Rattle.std.proofs.Common.{◌≡◌, ℕ, length, List, [], ◌∷◌, Option, Some, None, Bool, true, false}
use Rattle.std.proofs.Common.{cond, refl, ap, sym, ◌∙◌, subst, arith, ◌&&◌, ◌==◌, inl, inr}
use Rattle.std.specs.List.{list_all, filter}
use Rattle.std.specs.List.Sorted.{IsStrictlySortedBy}
use Rattle.std.proofs.lemmas.Bool.{and_parts, and_from}
use Rattle.std.proofs.lemmas.Bool.Decides.{nat_tests}
use Rattle.chem_model.specs.declared.event.AtomId.{AtomId}
use Rattle.chem_model.specs.declared.event.RuleId.{RuleId}
use Rattle.chem_model.specs.declared.numbered.NumberedRule.{NumberedRule}
use Rattle.chem_model.specs.declared.numbered.NumberedAtom.{NumberedAtom}
use Rattle.chem_model.specs.declared.numbered.Numbered.{Numbered}
use Rattle.chem_model.specs.Each.{IsIn}
use Rattle.chem_model.specs.Solution.{live}
use Rattle.chem_model.specs.Numbered.{standing}
use Rattle.chem_model.specs.Apply.{same_rule, atom_at, rule_at}
use Rattle.chem_model.specs.Sound.{IsSound}
use Rattle.chem_laws.proofs.Places.{live_parts, root_is}
use Rattle.chem_causes.specs.Ready.{is_met, is_ready, can_act}
use Rattle.book_store.specs.Walk.{or_else, walk}
use Rattle.book_store.specs.Keys.{Key}
use Rattle.book_store.specs.Older.{whole}
use Rattle.trace_history.specs.inside.Chosen.{kept_at, rule_site, rule_for, atom_site, request_for}
use Rattle.trace_history.specs.inside.Chosen.{IsFirstReady, IsFirstAsking}
use Rattle.book_store.specs.declared.candidates.Candidates.{Candidates}
use Rattle.trace_history.proofs.Acting.{acts, acts_live}
use Rattle.trace_history.proofs.Founds.{rules_differ}
use Rattle.book_store.proofs.KeyLaws.{key_cmp}
use Rattle.chem_commit.specs.inside.Differ.{AtomsDiffer}
use Rattle.book_store.proofs.ByNumber.{atom_has, rule_has, member_found, rule_member_found}
use Rattle.book_store.proofs.Queued.{id_of, atom_in}
use Rattle.trace_history.proofs.Turned.{is_late, is_early, turned, IsAtKey, first_in_turn}
use Rattle.book_store.proofs.WalkLaws.{walk-append}

-- ---- one that is found is at the key's site, and passes

module _ {X : Type 0} (site : X → ℕ) (test : X → Bool) where
  pub record Stands (s : ℕ) (o : Option X) (x : X) : Type 0 where
    pub found : o ≡ Some x
    pub at_site : site x ≡ s
    pub passes : test x ≡ true

  stands : (s : ℕ) (o : Option X) (x : X) → kept_at site test s o ≡ Some x → Stands s o x
  stands s None x e = cc
  stands s (Some y) x e = go ((site y == s) && test y) refl e
    where
      go : (t : Bool) → (site y == s) && test y ≡ t → cond t (Some y) None ≡ Some x
          → Stands s (Some y) x
      go true c f =
          let same : y ≡ x = cc in
          let both = and_parts (site y == s) (test y) c in
          let there : site y ≡ s = let d = both.0 in grind (arith, nat_tests) in
          subst (λ z. Stands s (Some y) z) same
          (record { found = refl; at_site = there; passes = both.1 })
      go false c f = cc

  itself : (s : ℕ) → (s == s) ≡ true
  itself s = grind (arith, nat_tests)

  stands_for : (o : Option X) (x : X) → o ≡ Some x → test x ≡ true
      → kept_at site test (site x) o ≡ Some x
  stands_for o x e h = ap (kept_at site test (site x)) e
      ∙ ap (λ t. cond t (Some x) None)
      (and_from (site x == site x) (test x) (itself (site x)) h)

-- ---- in turn

-- two walks, the second where the first finds none
pub two_walks : {X : Type 0} (find : Key → Option X) (from : ℕ) (ks late early : List Key)
    (o : Option X) → late ≡ filter (is_late from) ks → early ≡ filter (is_early from) ks
    → or_else (walk find late) (walk find early) ≡ o → walk find (turned from ks) ≡ o
two_walks find from ks late early o a b e =
    walk-append find (filter (is_late from) ks) (filter (is_early from) ks)
    ∙ ap (λ (l : List Key). or_else (walk find l) (walk find (filter (is_early from) ks))) (sym a)
    ∙ ap (λ (l : List Key). or_else (walk find late) (walk find l)) (sym b)
    ∙ e

-- ---- rules

pub rule_in : (rules : List NumberedRule) (i : RuleId) (r : NumberedRule) → rule_at rules i ≡ Some r
    → IsIn r rules
rule_in [] i r e = cc
rule_in (q ∷ rules) i r e = go (same_rule q.id i) (rule_in rules i r) e
  where
    go : (t : Bool) → (rule_at rules i ≡ Some r → IsIn r rules)
        → cond t (Some q) (rule_at rules i) ≡ Some r → IsIn r (q ∷ rules)
    go true ih e' = let same : r ≡ q = cc in inl same
    go false ih e' = inr (ih e')

abbrev rule_id_of : Key → RuleId
rule_id_of k = record { site = k.1.0; k = k.1.1 }

module _ (m : Numbered) (sound : IsSound m) (old : List NumberedAtom) (from : ℕ)
    (c : Candidates) (sorted : IsStrictlySortedBy key_cmp c.sites.keys) where
  abbrev n : Numbered
  n = whole old m

  rule_right : (k : Key) (r : NumberedRule) → rule_for n k ≡ Some r
      → IsIn r m.rules × (is_ready n r ≡ true)
      × IsAtKey (length m.counts) from (rule_site m) (λ (q : NumberedRule). (q.id.site, q.id.k)) k r
  rule_right k r e =
      let s = stands (rule_site n) (is_ready n) k.0 (rule_at m.rules (rule_id_of k)) r e in
      let lives =
      (and_parts (live (standing m.places) r.loc) (list_all (is_met n.atoms r.loc) r.pats)
      s.passes).0 in (
        rule_in m.rules (rule_id_of k) r s.found,
        s.passes,
        record {
          at_site = s.at_site;
          numbered = ap (λ (i : RuleId). (i.site, i.k)) (rule_has m.rules (rule_id_of k) r s.found);
          within = (root_is m sound r.loc (live_parts (standing m.places) r.loc lives).0).0.1;
        },
      )

  pub first_ready_is : (o : Option NumberedRule)
      → walk (rule_for n) (turned from c.sites.keys) ≡ o → IsFirstReady n from c o
  first_ready_is o e =
      let r =
      first_in_turn (length m.counts) from (rule_site m) (λ (q : NumberedRule). (q.id.site, q.id.k))
      (rule_for n) (is_ready n) m.rules c.sites.keys sorted rule_right o e in
      record {
        one = r.0;
        all = λ q at is ready. r.1 (rule_site m q, (q.id.site, q.id.k)) q is.at_site
            (stands_for (rule_site n) (is_ready n) (rule_at m.rules q.id) q
            (rule_member_found m.rules (rules_differ m sound from) q at) ready);
      }

  -- ---- requests

  module _ (differ : AtomsDiffer old) where
    request_right : (k : Key) (a : NumberedAtom) → request_for m old k ≡ Some a
        → IsIn a old × (can_act m a ≡ true)
        × IsAtKey (length m.counts) from (atom_site m) (λ (b : NumberedAtom). (b.id.site, b.id.k)) k
        a
    request_right k a e =
        let s = stands (atom_site m) (can_act m) k.0 (atom_at old (id_of k)) a e in
        let lives = acts_live m a.loc a.term (acts m a.id a.loc a.term s.passes) in (
          atom_in old (id_of k) a s.found,
          s.passes,
          record {
            at_site = s.at_site;
            numbered = ap (λ (i : AtomId). (i.site, i.k)) (atom_has old (id_of k) a s.found);
            within = (root_is m sound a.loc (live_parts (standing m.places) a.loc lives).0).0.1;
          },
        )

    pub first_asking_is : (o : Option NumberedAtom)
        → walk (request_for m old) (turned from c.sites.keys) ≡ o → IsFirstAsking m from c old o
    first_asking_is o e =
        let r = first_in_turn (length m.counts) from (atom_site m)
        (λ (b : NumberedAtom). (b.id.site, b.id.k))
        (request_for m old) (can_act m) old c.sites.keys sorted request_right o e in
        record {
          one = r.0;
          all = λ b at is can. r.1 (atom_site m b, (b.id.site, b.id.k)) b is.at_site
              (stands_for (atom_site m) (can_act m) (atom_at old b.id) b
              (member_found old differ b at) can);
        }

-- ---- no candidate

nothing : (ks : List Key) (k : Key) → length ks ≡ 0 → IsIn k ks → ⊥
nothing [] k e at = at
nothing (j ∷ ks) k e at = absurd (omega (arith, e))

pub none_ready : (n : Numbered) (from : ℕ) (c : Candidates) → length c.sites.keys ≡ 0
    → IsFirstReady n from c None
none_ready n from c e =
    record { one = tt; all = λ r at is ready. absurd (nothing c.sites.keys _ e is.at_site) }

pub none_asking : (n : Numbered) (from : ℕ) (c : Candidates) (atoms : List NumberedAtom)
    → length c.sites.keys ≡ 0 → IsFirstAsking n from c atoms None
none_asking n from c atoms e =
    record { one = tt; all = λ a at is acts. absurd (nothing c.sites.keys _ e is.at_site) }
