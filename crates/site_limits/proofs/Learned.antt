-- What is noted: limits only grow, and what was noted before stays within them.
use Rattle.std.proofs.Common.{◌≡◌, ℕ, zero, suc, ◌+◌, ◌<◌, ◌≤◌, List, [], ◌∷◌, ◌++◌, Bool, true}
use Rattle.std.proofs.Common.{false, length, drop, Some, refl, sym, ap, ◌∙◌, subst, arith, eq-eqb}
use Rattle.std.specs.Prelude.{◌&&◌, ◌||◌, ◌==◌, nat_lt, slice_get, slice_index, slice_index_or, zip}
use Rattle.std.specs.List.{list_all, list_any}
use Rattle.std.proofs.lemmas.Bool.{and_from, or_left, or_right}
use Rattle.chem_model.specs.declared.name.Loc.{Loc}
use Rattle.loc_tree.proofs.Spots.{same_loc_refl}
use Rattle.net_laws.specs.Site.{Told}
use Rattle.net_laws.specs.Net.{among}
use Rattle.net_laws.proofs.Posting.{among_append}
use Rattle.site_shelves.specs.InCode.{same_counts, same_pairs}
use Rattle.site_shelves.proofs.Walked.{all-more, drop-past}
use Rattle.site_limits.specs.declared.known.Known.{Known}
use Rattle.site_limits.specs.declared.shapes.Shape.{Shape}
use Rattle.site_limits.specs.Limits.{Limits, IsWider}
use Rattle.site_limits.specs.Knows.{limits_of, Noted}
use Rattle.site_limits.specs.Shapes.{shape_of, has_shape, is_shaped}

pub wider-refl : (a : Limits) → IsWider a a
wider-refl a = record {
  known = λ l h. h;
  after = λ i. omega arith;
  drawn = omega arith;
  shaped = λ d h. h;
}

pub wider-then : (a b c : Limits) → IsWider a b → IsWider b c → IsWider a c
wider-then a b c f g = record {
  known = λ l h. g.known l (f.known l h);
  after = λ i. omega (arith, f.after i, g.after i);
  drawn = omega (arith, f.drawn, g.drawn);
  shaped = λ d h. g.shaped d (f.shaped d h);
}

-- what stays where the limits grow
abbrev pub Stays : (Limits → Type 0) → Type 0
Stays H = (a b : Limits) → IsWider a b → H a → H b

-- ---- one note, and two in a row

-- it is so already
pub noted-nothing : (a : Known) (H : Limits → Type 0) → H (limits_of a) → Noted a a H
noted-nothing a H h kept = record { kept = kept; wider = wider-refl (limits_of a); holds = h }

pub noted-then : (a b c : Known) (H K L : Limits → Type 0) → Stays H
    → ((d : Limits) → H d → K d → L d) → Noted a b H → Noted b c K → Noted a c L
noted-then a b c H K L stays both f g kept =
    let later = g kept in
    let first = f later.kept in
    record {
      kept = first.kept;
      wider = wider-then (limits_of a) (limits_of b) (limits_of c) first.wider later.wider;
      holds = both (limits_of c) (stays (limits_of b) (limits_of c) later.wider first.holds)
          later.holds;
    }

pub noted-both : (a b c : Known) (P Q : Limits → Bool) → Stays (λ d. P d ≡ true)
    → Noted a b (λ d. P d ≡ true) → Noted b c (λ d. Q d ≡ true)
    → Noted a c (λ d. P d && Q d ≡ true)
noted-both a b c P Q stays f g =
    noted-then a b c (λ d. P d ≡ true) (λ d. Q d ≡ true) (λ d. P d && Q d ≡ true) stays
    (λ d p q. and_from (P d) (Q d) p q) f g

-- ---- members one after another

module _ {X : Type 0} (P : Limits → X → Bool) (xs : List X) (from : ℕ) where
  -- from the first of them on: those from here on are left, and with them the limits hold all
  abbrev pub Left : ℕ → Limits → Type 0
  Left i d =
      (e : Limits) → IsWider d e → list_all (P e) (drop i xs) ≡ true
      → list_all (P e) (drop from xs) ≡ true

  pub left-first : (a : Known) → Noted a a (Left from)
  left-first a = noted-nothing a (Left from) (λ e wider h. h)

  pub left-next : (i : ℕ) (x : X) (a b c : Known) → Stays (λ d. P d x ≡ true)
      → slice_get xs i ≡ Some x → Noted a b (Left i) → Noted b c (λ d. P d x ≡ true)
      → Noted a c (Left (i + 1))
  left-next i x a b c stays at f g kept =
      let later = g kept in
      let first = f later.kept in
      record {
        kept = first.kept;
        wider = wider-then (limits_of a) (limits_of b) (limits_of c) first.wider later.wider;
        holds = λ e wider rest. first.holds e
            (wider-then (limits_of b) (limits_of c) e later.wider wider)
            (all-more (P e) xs i x at
            ∙ and_from (P e x) (list_all (P e) (drop (i + 1) xs))
            (stays (limits_of c) e wider later.holds) rest);
      }

  pub left-none : (i : ℕ) (a b : Known) → length xs ≤ i → Noted a b (Left i)
      → Noted a b (λ d. list_all (P d) (drop from xs) ≡ true)
  left-none i a b past f kept =
      let is = f kept in
      record {
        kept = is.kept;
        wider = is.wider;
        holds = is.holds (limits_of b) (wider-refl (limits_of b))
            (ap (list_all (P (limits_of b))) (drop-past xs i past));
      }

-- a member as a loop names it
pub member-at : {X : Type 0} (xs : List X) (i : ℕ) (d : X) → i < length xs
    → slice_get xs i ≡ Some (slice_index_or xs i d)
member-at [] i d less = absurd (omega arith)
member-at (x ∷ xs) zero d less = refl
member-at (x ∷ xs) (suc i) d less = member-at xs i d (omega arith)

-- ---- locations

or-more : (x y z : Bool) → x || y ≡ true → x || (y || z) ≡ true
or-more true y z h = refl
or-more false true z h = refl
or-more false false z h = absurd (cc)

-- one location more
pub place-noted : (a b : Known) (l : Loc) → b.roots ≡ a.roots
    → b.named.locs ≡ a.named.locs ++ l ∷ [] → b.atoms.items ≡ a.atoms.items → b.drawn ≡ a.drawn
    → b.shapes.items ≡ a.shapes.items → b.lost ≡ a.lost → Noted a b (λ d. d.known l ≡ true)
place-noted a b l roots named atoms drawn shapes lost kept = record {
  kept = sym lost ∙ kept;
  wider = record {
    known = λ x h. rw (roots, named)
        (subst (λ (t : Bool). ((x.k == 0) && nat_lt x.site a.roots) || t ≡ true)
        (sym (among_append a.named.locs (l ∷ []) x))
        (or-more ((x.k == 0) && nat_lt x.site a.roots) (among a.named.locs x) (among (l ∷ []) x)
        h));
    after = λ i. omega (arith, ap (λ (ns : List ℕ). slice_index ns i) atoms);
    drawn = omega (arith, drawn);
    shaped = λ d h. rw shapes h;
  };
  holds = rw named (or_right ((l.k == 0) && nat_lt l.site b.roots)
      (among (a.named.locs ++ l ∷ []) l)
      (among_append a.named.locs (l ∷ []) l
      ∙ or_right (among a.named.locs l) (among (l ∷ []) l)
      (ap (λ (t : Bool). t || false) (same_loc_refl l))));
}

-- ---- shapes of groups

counts-same : (ns : List ℕ) → same_counts ns ns ≡ true
counts-same ns =
    and_from (length ns == length ns) (same_pairs (zip ns ns)) (eq-eqb (length ns) (length ns) refl)
    (pairs ns)
  where
    pairs : (ms : List ℕ) → same_pairs (zip ms ms) ≡ true
    pairs [] = refl
    pairs (m ∷ ms) = and_from (m == m) (same_pairs (zip ms ms)) (eq-eqb m m refl) (pairs ms)

has-own : (d : Told) → has_shape d (shape_of d) ≡ true
has-own d =
    let rest = (d.guards == d.guards) && (length d.inst.env == length d.inst.env) in
    and_from (d.inst.level == d.inst.level) (same_counts d.counts d.counts && rest)
    (eq-eqb d.inst.level d.inst.level refl)
    (and_from (same_counts d.counts d.counts) rest (counts-same d.counts)
    (and_from (d.guards == d.guards) (length d.inst.env == length d.inst.env)
    (eq-eqb d.guards d.guards refl)
    (eq-eqb (length d.inst.env) (length d.inst.env) refl)))

any-first : {X : Type 0} (p : X → Bool) (xs ys : List X) → list_any p xs ≡ true
    → list_any p (xs ++ ys) ≡ true
any-first p [] ys h = absurd (cc)
any-first p (x ∷ xs) ys h = go (p x) h (λ e. any-first p xs ys e)
  where
    go : (t : Bool) → t || list_any p xs ≡ true
        → (list_any p xs ≡ true → list_any p (xs ++ ys) ≡ true)
        → t || list_any p (xs ++ ys) ≡ true
    go true e rest = refl
    go false e rest = rest e

any-last : {X : Type 0} (p : X → Bool) (xs : List X) (x : X) → p x ≡ true
    → list_any p (xs ++ x ∷ []) ≡ true
any-last p [] x h = or_left (p x) false h
any-last p (y ∷ xs) x h = or_right (p y) (list_any p (xs ++ x ∷ [])) (any-last p xs x h)

-- one shape more
pub shape-noted : (a b : Known) (d : Told) → b.roots ≡ a.roots → b.named.locs ≡ a.named.locs
    → b.atoms.items ≡ a.atoms.items → b.drawn ≡ a.drawn
    → b.shapes.items ≡ a.shapes.items ++ shape_of d ∷ [] → b.lost ≡ a.lost
    → Noted a b (λ e. e.shaped d ≡ true)
shape-noted a b d roots named atoms drawn shapes lost kept = record {
  kept = sym lost ∙ kept;
  wider = record {
    known = λ l h. rw (roots, named) h;
    after = λ i. omega (arith, ap (λ (ns : List ℕ). slice_index ns i) atoms);
    drawn = omega (arith, drawn);
    shaped = λ x h. ap (λ (vs : List Shape). is_shaped vs x) shapes
        ∙ any-first (has_shape x) a.shapes.items (shape_of d ∷ []) h;
  };
  holds = ap (λ (vs : List Shape). is_shaped vs d) shapes
      ∙ any-last (has_shape d) a.shapes.items (shape_of d) (has-own d);
}
