-- Two reactions under different roots, in either order.
use Rattle.std.proofs.Common.{◌≡◌, ◌≢◌, ℕ, zero, suc, ◌+◌, List, [], ◌∷◌, ◌++◌, Option, Some, None}
use Rattle.std.proofs.Common.{Bool, true, false, cond, refl, sym, ap, ◌∙◌, subst, arith}
use Rattle.std.specs.Prelude.{slice_index}
use Rattle.std.specs.Coded.{Coded}
use Rattle.std.proofs.Math.ListN.{set}
use Rattle.chem_model.specs.declared.name.Loc.{Loc}
use Rattle.chem_model.specs.declared.name.Name.{Name}
use Rattle.chem_model.specs.declared.name.Name.TheVariants as name
use Rattle.chem_model.specs.declared.event.AtomId.{AtomId}
use Rattle.chem_model.specs.declared.event.RuleId.{RuleId}
use Rattle.chem_model.specs.declared.event.Event.TheVariants as event
use Rattle.chem_model.specs.declared.numbered.Placed.{Placed}
use Rattle.chem_model.specs.declared.numbered.NumberedRule.{NumberedRule}
use Rattle.chem_model.specs.declared.numbered.NumberedAtom.{NumberedAtom}
use Rattle.chem_model.specs.declared.numbered.Numbered.{Numbered}
use Rattle.chem_model.specs.declared.numbered.Made.{Made}
use Rattle.chem_model.specs.contracts.numbered.NumberedRule as rule
use Rattle.chem_model.specs.contracts.numbered.NumberedAtom as atom
use Rattle.chem_model.specs.Bag.{bag, one}
use Rattle.chem_model.specs.Each.{Each}
use Rattle.chem_model.specs.Fill.{Naming}
use Rattle.chem_model.specs.Solution.{Standing, is_there, root}
use Rattle.chem_model.specs.NewNames.{coded_pair}
use Rattle.chem_model.specs.Numbered.{standing, binder_in, same_name, place_pairs}
use Rattle.chem_model.specs.Pour.{add_made}
use Rattle.chem_model.specs.Opening.{root_of}
use Rattle.chem_model.specs.Apply.{same_atom, rule_at, atom_at, without, without_all, apply}
use Rattle.chem_model.specs.Sound.{IsSound, IsNameOf, IsAtom, IsSettled, IsRule, IsRoot}
use Rattle.chem_model.specs.Laws.{EventIsAReduction}
use Rattle.chem_laws.specs.Order.{InEitherOrder, ReactionsCommute, HasAll, AreFound, body_made}
use Rattle.chem_laws.proofs.Lists.{Each-weaker}
use Rattle.chem_laws.proofs.Bags.{bag-append}
use Rattle.chem_laws.proofs.Places.{standing_left, standing_right, place_pair_found}
use Rattle.chem_laws.proofs.Places.{place_pairs-append, live_parts, root_is, root_loc}
use Rattle.chem_laws.proofs.Taking.{same_name_is, found-without, rule_found, AreDifferentAtoms}
use Rattle.chem_laws.proofs.Taking.{apart, all_received, ids_differ}
use Rattle.chem_laws.proofs.Framed.{taken_out, after, Reaction, reaction, Again, again, gone_of}
use Rattle.chem_laws.proofs.Framed.{others_stay}
use Rattle.chem_laws.proofs.NamedSite.{IsOfSite, AreOfSite, pour_of_site}

-- ---- counts

set_swap : (xs : List ℕ) (i j x y : ℕ) → i ≢ j → set (set xs i x) j y ≡ set (set xs j y) i x
set_swap [] i j x y h = refl
set_swap (a ∷ xs) zero zero x y h = absurd (h refl)
set_swap (a ∷ xs) zero (suc j) x y h = refl
set_swap (a ∷ xs) (suc i) zero x y h = refl
set_swap (a ∷ xs) (suc i) (suc j) x y h =
    ap (λ ys. a ∷ ys) (set_swap xs i j x y (λ e. h (ap suc e)))

-- ---- multisets: the order of two pieces at the end

pub bag_swap : {X : Type 0} (c : Coded X) (xs ys zs : List X) (x : X)
    → bag c ((xs ++ ys) ++ zs) x ≡ bag c ((xs ++ zs) ++ ys) x
bag_swap c xs ys zs x = omega (
  arith,
  bag-append c (xs ++ ys) zs x,
  bag-append c xs ys x,
  bag-append c (xs ++ zs) ys x,
  bag-append c xs zs x,
)

-- ---- what is taken, and what is left

bag-without : (atoms : List NumberedAtom) (i : AtomId) (a x : NumberedAtom)
    → atom_at atoms i ≡ Some a
    → bag atom.the_row.coded atoms x
    ≡ one atom.the_row.coded a x + bag atom.the_row.coded (without i atoms) x
bag-without [] i a x e = cc
bag-without (b ∷ atoms) i a x e = go (same_atom b.id i) (bag-without atoms i a x) e
  where
    go : (t : Bool)
        → (atom_at atoms i ≡ Some a
        → bag atom.the_row.coded atoms x
        ≡ one atom.the_row.coded a x + bag atom.the_row.coded (without i atoms) x)
        → cond t (Some b) (atom_at atoms i) ≡ Some a
        → one atom.the_row.coded b x + bag atom.the_row.coded atoms x
        ≡ one atom.the_row.coded a x + bag atom.the_row.coded (cond t atoms (b ∷ without i atoms)) x
    go true ih e' =
        let same : b ≡ a = cc in
        ap (λ (u : NumberedAtom). one atom.the_row.coded u x + bag atom.the_row.coded atoms x) same
    go false ih e' = omega (arith, ih e')

pub still_there :
    (i : AtomId) (atoms : List NumberedAtom) (took : List AtomId) (gone : List NumberedAtom)
    → Each (λ (j : AtomId). same_atom i j ≡ false) took → AreFound atoms took gone
    → AreFound (without i atoms) took gone
still_there i atoms [] [] d f = tt
still_there i atoms [] (a ∷ gone) d f = f
still_there i atoms (j ∷ took) [] d f = f
still_there i atoms (j ∷ took) (a ∷ gone) d f =
    (found-without i j atoms d.0 ∙ f.0, still_there i atoms took gone d.1 f.1)

pub taken_split : (took : List AtomId) (atoms gone : List NumberedAtom) (x : NumberedAtom)
    → AreDifferentAtoms took → AreFound atoms took gone
    → bag atom.the_row.coded atoms x
    ≡ bag atom.the_row.coded gone x + bag atom.the_row.coded (without_all took atoms) x
taken_split [] atoms [] x d f = omega arith
taken_split [] atoms (a ∷ gone) x d f = absurd f
taken_split (i ∷ took) atoms [] x d f = absurd f
taken_split (i ∷ took) atoms (a ∷ gone) x d f = omega (
  arith,
  bag-without atoms i a x f.0,
  taken_split took (without i atoms) gone x d.1 (still_there i atoms took gone d.0 f.1),
)

-- the atoms that a reaction takes are found where the solution has more
pub found_more :
    (atoms others : List NumberedAtom) (took : List AtomId) (gone : List NumberedAtom)
    (P : NumberedAtom → Type 0)
    → ((i : AtomId) (a : NumberedAtom) → atom_at atoms i ≡ Some a → P a → atom_at others i ≡ Some a)
    → AreFound atoms took gone → Each P gone → AreFound others took gone
found_more atoms others [] [] P f g h = tt
found_more atoms others [] (a ∷ gone) P f g h = g
found_more atoms others (i ∷ took) [] P f g h = g
found_more atoms others (i ∷ took) (a ∷ gone) P f g h =
    (f i a g.0 h.0, found_more atoms others took gone P f g.1 h.1)

-- a reaction takes different atoms
pub different :
    (n : Numbered) (sound : IsSound n) (i : RuleId) (r : NumberedRule) (took : List AtomId)
    (m : Numbered) → rule_at n.rules i ≡ Some r → Reaction n r took m → AreDifferentAtoms took
different n sound i r took m at_rule x =
    let settled =
    Each-weaker (IsAtom n) (λ (a : NumberedAtom). IsSettled n.seen (IsNameOf n) a.loc a.term)
    (λ a h. h.1) n.atoms sound.atoms in
    let got =
    all_received (IsNameOf n) n.seen n.atoms r.loc r.pats took x.names settled x.receives in
    let is = rule_found (IsRule n) n.rules i r at_rule sound.rules in
    ids_differ (IsNameOf n) r.pats took x.names got (apart r.pats is.is.0.channels)

-- ---- maps: the order of two pieces that have nothing in common

pub standing_swap : (ps bs cs : List Placed) (l : Loc)
    → (is_there (standing bs l) ≡ true → is_there (standing cs l) ≡ false)
    → standing ((ps ++ bs) ++ cs) l ≡ standing ((ps ++ cs) ++ bs) l
standing_swap ps bs cs l f = old (is_there (standing ps l)) refl
  where
    new : is_there (standing ps l) ≡ false → (t : Bool) → is_there (standing bs l) ≡ t
        → standing ((ps ++ bs) ++ cs) l ≡ standing ((ps ++ cs) ++ bs) l
    new c true d =
        let with_bs = standing_right ps bs l c in
        let with_cs = standing_right ps cs l c in
        standing_left (ps ++ bs) cs l (ap is_there with_bs ∙ d) ∙ with_bs
        ∙ sym (standing_right (ps ++ cs) bs l (ap is_there with_cs ∙ f d))
    new c false d = without_bs (is_there (standing cs l)) refl
      where
        with_bs : standing (ps ++ bs) l ≡ standing bs l
        with_bs = standing_right ps bs l c

        with_cs : standing (ps ++ cs) l ≡ standing cs l
        with_cs = standing_right ps cs l c

        none_of : (o : Option Standing) → is_there o ≡ false → o ≡ None
        none_of None e = refl
        none_of (Some s) e = cc

        without_bs : (u : Bool) → is_there (standing cs l) ≡ u
            → standing ((ps ++ bs) ++ cs) l ≡ standing ((ps ++ cs) ++ bs) l
        without_bs true e = standing_right (ps ++ bs) cs l (ap is_there with_bs ∙ d)
            ∙ sym (standing_left (ps ++ cs) bs l (ap is_there with_cs ∙ e) ∙ with_cs)
        without_bs false e = standing_right (ps ++ bs) cs l (ap is_there with_bs ∙ d)
            ∙ none_of (standing cs l) e ∙ sym (none_of (standing bs l) d)
            ∙ sym (standing_right (ps ++ cs) bs l (ap is_there with_cs ∙ e))

    old : (t : Bool) → is_there (standing ps l) ≡ t
        → standing ((ps ++ bs) ++ cs) l ≡ standing ((ps ++ cs) ++ bs) l
    old true c =
        let with_bs = standing_left ps bs l c in
        let with_cs = standing_left ps cs l c in
        standing_left (ps ++ bs) cs l (ap is_there with_bs ∙ c) ∙ with_bs
        ∙ sym (standing_left (ps ++ cs) bs l (ap is_there with_cs ∙ c) ∙ with_cs)
    old false c = new c (is_there (standing bs l)) refl

-- the first entry with a name, in two lists one behind the other
abbrev or_else : Option ℕ → Option ℕ → Option ℕ
or_else None o = o
or_else (Some b) o = Some b

binder-append : (m n : Naming) (x : Name)
    → binder_in (m ++ n) x ≡ or_else (binder_in m x) (binder_in n x)
binder-append [] n x = refl
binder-append (e ∷ m) n x = go (same_name e.name x) (binder-append m n x)
  where
    go : (t : Bool) → binder_in (m ++ n) x ≡ or_else (binder_in m x) (binder_in n x)
        → cond t (Some e.binder) (binder_in (m ++ n) x)
        ≡ or_else (cond t (Some e.binder) (binder_in m x)) (binder_in n x)
    go true ih = refl
    go false ih = ih

-- a name that is found in names of one site is of that site
named_of_site : (s : ℕ) (m : Naming) (x : Name) (b : ℕ) → AreOfSite s m → binder_in m x ≡ Some b
    → IsOfSite s x
named_of_site s [] x b h e = cc
named_of_site s (y ∷ m) x b h e = go (same_name y.name x) refl e (named_of_site s m x b h.1)
  where
    go : (t : Bool) → same_name y.name x ≡ t → cond t (Some y.binder) (binder_in m x) ≡ Some b
        → (binder_in m x ≡ Some b → IsOfSite s x) → IsOfSite s x
    go true c e' ih = subst (IsOfSite s) (same_name_is y.name x c) h.0
    go false c e' ih = ih e'

one_site : (s t : ℕ) (x : Name) → IsOfSite s x → IsOfSite t x → s ≡ t
one_site s t (name.Seen i) h g = absurd h
one_site s t (name.Place a) h g = sym h ∙ g
one_site s t (name.Chan u k l) h g = sym h ∙ g
one_site s t (name.Num n) h g = absurd h
one_site s t (name.Op i) h g = absurd h

binder_swap : (s t : ℕ) (ns bs cs : Naming) (x : Name) → s ≢ t → AreOfSite s bs → AreOfSite t cs
    → binder_in ((ns ++ bs) ++ cs) x ≡ binder_in ((ns ++ cs) ++ bs) x
binder_swap s t ns bs cs x away hb hc =
    binder-append (ns ++ bs) cs x ∙ ap (λ o. or_else o (binder_in cs x)) (binder-append ns bs x)
    ∙ go (binder_in ns x) (binder_in bs x) refl (binder_in cs x) refl
    ∙ sym
    (binder-append (ns ++ cs) bs x ∙ ap (λ o. or_else o (binder_in bs x)) (binder-append ns cs x))
  where
    go : (o p : Option ℕ) → binder_in bs x ≡ p → (q : Option ℕ) → binder_in cs x ≡ q
        → or_else (or_else o p) q ≡ or_else (or_else o q) p
    go (Some b) p c q d = refl
    go None None c None d = refl
    go None None c (Some e) d = refl
    go None (Some b) c None d = refl
    go None (Some b) c (Some e) d =
        absurd (away (one_site s t x (named_of_site s bs x b hb c) (named_of_site t cs x e hc d)))

-- ---- both orders

module _ (law : EventIsAReduction) where
  module _ (n : Numbered) (sound : IsSound n) where
    abbrev home : NumberedRule → Loc
    home r = root (standing n.places) r.loc

    abbrev after_both : NumberedRule → List AtomId → Naming → NumberedRule → List AtomId → Naming
        → Numbered
    after_both r took m q taken k =
        add_made (taken_out (after n r took m) taken) (home q).site (body_made n q k)

    -- the second is possible after the first, and makes what it would have made before
    module _ (r q : NumberedRule) (i j : RuleId) (took taken : List AtomId) (n1 n2 : Numbered)
        (at_r : rule_at n.rules i ≡ Some r) (at_q : rule_at n.rules j ≡ Some q)
        (away : (home q).site ≢ (home r).site)
        (x : Reaction n r took n1) (y : Reaction n q taken n2) where
      pub has_q : HasAll (home q).site n (after n r took x.names)
      has_q = others_stay n r took n1 x (home q).site away

      second : Again (home q).site n (after n r took x.names) has_q sound j q taken y.names
      second = again (home q).site n (after n r took x.names) has_q sound j taken q n2 at_q refl y

      pub second_is :
          apply n1 (event.React j taken) ≡ Some (after_both r took x.names q taken y.names)
      second_is =
          let n3 = taken_out (after n r took x.names) taken in
          ap (λ (k : Numbered). apply k (event.React j taken)) (sym x.result) ∙ second.applies
          ∙ ap
          (λ (h : Loc). Some (add_made n3 h.site (body_made (after n r took x.names) q y.names)))
          second.at_root
          ∙ ap (λ (a : Made). Some (add_made n3 (home q).site a)) second.makes

      -- what is left, and what both have taken
      pub left : (z : NumberedAtom)
          → bag atom.the_row.coded n.atoms z
          + bag atom.the_row.coded (body_made n r x.names).atoms z
          + bag atom.the_row.coded (body_made n q y.names).atoms z
          ≡ bag atom.the_row.coded (gone_of n.atoms r.loc r.pats took x.names x.receives).gone z
          + bag atom.the_row.coded (gone_of n.atoms q.loc q.pats taken y.names y.receives).gone z
          + bag atom.the_row.coded (after_both r took x.names q taken y.names).atoms z
      left z =
          let g = gone_of n.atoms r.loc r.pats took x.names x.receives in
          let h = gone_of n.atoms q.loc q.pats taken y.names y.receives in
          let n3 = after n r took x.names in
          let first =
          taken_split took n.atoms g.gone z (different n sound i r took n1 at_r x) g.found in
          let later = found_more n.atoms n3.atoms taken h.gone (λ (a : NumberedAtom). a.loc ≡ q.loc)
          (λ k a e at_q.
          has_q.atoms k a e (ap (λ (l : Loc). (root (standing n.places) l).site) at_q))
          h.found h.at_l in
          let then =
          taken_split taken n3.atoms h.gone z (different n sound j q taken n2 at_q y) later in
          omega (
            arith,
            first,
            then,
            bag-append atom.the_row.coded (without_all took n.atoms)
                (body_made n r x.names).atoms z,
            bag-append atom.the_row.coded (without_all taken n3.atoms)
                (body_made n q y.names).atoms z,
          )

    same_root : (g h : Loc) → IsRoot n g → IsRoot n h → g.site ≡ h.site → g ≡ h
    same_root g h at_g at_h e =
        sym (root_loc g g.site at_g.0 refl) ∙ ap root_of e ∙ root_loc h h.site at_h.0 refl

    pub commute : (n1 n2 : Numbered) (i j : RuleId) (took taken : List AtomId) (r q : NumberedRule)
        → rule_at n.rules i ≡ Some r → rule_at n.rules j ≡ Some q → home r ≢ home q
        → apply n (event.React i took) ≡ Some n1 → apply n (event.React j taken) ≡ Some n2
        → InEitherOrder n n1 n2 (event.React i took) (event.React j taken)
    commute n1 n2 i j took taken r q at_r at_q roots e f =
        let x = reaction n n1 i took r at_r e in
        let y = reaction n n2 j taken q at_q f in
        let a = body_made n r x.names in
        let b = body_made n q y.names in
        let root_r = (root_is n sound r.loc (live_parts (standing n.places) r.loc x.lives).0).0 in
        let root_q = (root_is n sound q.loc (live_parts (standing n.places) q.loc y.lives).0).0 in
        let apart_rq : (home r).site ≢ (home q).site =
        λ s. roots (same_root (home r) (home q) root_r root_q s) in
        let apart_qr : (home q).site ≢ (home r).site = λ s. apart_rq (sym s) in
        let one = after_both r took x.names q taken y.names in
        let other = after_both q taken y.names r took x.names in
        let e_then_f = second_is r q i j took taken n1 n2 at_r at_q apart_qr x y in
        let f_then_e = second_is q r j i taken took n2 n1 at_q at_r apart_rq y x in
        let sound_one = (law n1 one (event.React j taken)
        (law n n1 (event.React i took) sound e).sound e_then_f).sound in
        record {
          e_then_f = one;
          f_then_e = other;
          f_follows = e_then_f;
          e_follows = f_then_e;
          same = record {
            version = refl;
            seen = refl;
            counts = set_swap n.counts (home r).site (home q).site a.next b.next apart_rq;
            places = λ l. standing_swap n.places a.births b.births l
                (λ there. new_places one sound_one n.places a.births b.births refl l there);
            binders = λ z. binder_swap (home r).site (home q).site n.named a.named b.named z
                apart_rq (pour_of_site (home r).site n.seen (home r)
                r.body x.names r.loc (slice_index n.counts (home r).site))
                (pour_of_site (home q).site n.seen (home q)
                q.body y.names q.loc (slice_index n.counts (home q).site));
            rules = λ z. bag_swap rule.the_row.coded n.rules a.rules b.rules z;
            atoms = λ z. (let first = left r q i j took taken n1 n2 at_r at_q apart_qr x y z in
                let then = left q r j i taken took n2 n1 at_q at_r apart_rq y x z in omega arith);
          };
          traces = record {
            e_outs = a.outs;
            f_outs = b.outs;
            e_alone = ap (λ (k : Numbered). k.trace) (sym x.result);
            f_alone = ap (λ (k : Numbered). k.trace) (sym y.result);
            e_first = refl;
            f_first = refl;
          };
        }
      where
        -- no location is born twice
        new_places : (m : Numbered) → IsSound m → (ps bs cs : List Placed)
            → m.places ≡ (ps ++ bs) ++ cs → (l : Loc) → is_there (standing bs l) ≡ true
            → is_there (standing cs l) ≡ false
        new_places m sound_m ps bs cs is l there = go (is_there (standing cs l)) refl
          where
            go : (t : Bool) → is_there (standing cs l) ≡ t → t ≡ false
            go false c = refl
            go true c =
                absurd (
                let d = sound_m.different (l.site, l.k) in
                let all = ap (λ xs. bag coded_pair (place_pairs xs) (l.site, l.k)) is in
                let one_b = place_pair_found bs l there in
                let one_c = place_pair_found cs l c in
                let outer = place_pairs-append (ps ++ bs) cs (l.site, l.k) in
                let inner = place_pairs-append ps bs (l.site, l.k) in
                omega arith
                )

  pub reactions_commute : ReactionsCommute
  reactions_commute n n1 n2 i j took taken r q sound at_r at_q roots e f =
      commute n sound n1 n2 i j took taken r q at_r at_q roots e f
