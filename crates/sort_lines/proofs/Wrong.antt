-- What is computed to be wrong with a line is what is wrong with it, and the least of that.
use Rattle.std.proofs.Common.{◌≡◌, ℕ, ◌≤◌, List, [], ◌∷◌, ◌++◌, length, Option, Some, None, Bool}
use Rattle.std.proofs.Common.{true, false, cond, refl, sym, ap, ◌∙◌, subst, arith, codes, inl, inr}
use Rattle.std.proofs.Common.{◌⊎◌, ◌||◌, ◌&&◌, not}
use Rattle.std.specs.List.{list_all}
use Rattle.std.specs.Str.{bytes_eq}
use Rattle.std.proofs.lemmas.Slice.Eq.{bytes_eq-Decides}
use Rattle.chem_model.specs.Each.{IsIn}
use Rattle.sort_lines.specs.declared.content.Content.{Content}
use Rattle.sort_lines.specs.declared.content.Content.TheVariants.{Declares, Uses}
use Rattle.sort_lines.specs.declared.read.SaidLine.{SaidLine}
use Rattle.sort_lines.specs.Lines.{Line}
use Rattle.sort_lines.specs.Contents.{ReadsAs}
use Rattle.sort_lines.specs.Faults.{first_place, IsBuiltIn, IsDefinedBy, IsUsedBy, IsRepeated}
use Rattle.sort_lines.specs.Faults.{IsUnknown, IsUndefined, IsWrongLine}
use Rattle.sort_lines.specs.inside.Reading.{IsSaid}
use Rattle.sort_lines.specs.inside.Judging.{IsSaidLine, AreSaid, defined_by, used_by, names_in}
use Rattle.sort_lines.specs.inside.Judging.{spells_in, is_built_in, is_among, is_known, is_place}
use Rattle.sort_lines.specs.inside.Judging.{is_repeated, wrong_by, wrong_in}
use Rattle.sort_lines.proofs.PlaceLaws.{in_list, is_in_list, own_place}

-- ---- tests

built_in : (name : List ℕ) → is_built_in name ≡ true → IsBuiltIn name
built_in name e = go (bytes_eq name (codes "place")) refl e
  where
    go : (t : Bool) → bytes_eq name (codes "place") ≡ t → t || bytes_eq name (codes "num") ≡ true
        → IsBuiltIn name
    go true c f = inl ((bytes_eq-Decides name (codes "place")).0 c)
    go false c f = inr ((bytes_eq-Decides name (codes "num")).0 f)

is_built : (name : List ℕ) → IsBuiltIn name → is_built_in name ≡ true
is_built name (inl e) =
    ap (λ t. t || bytes_eq name (codes "num")) ((bytes_eq-Decides name (codes "place")).1 e)
is_built name (inr e) = go (bytes_eq name (codes "place"))
  where
    go : (t : Bool) → t || bytes_eq name (codes "num") ≡ true
    go true = refl
    go false = (bytes_eq-Decides name (codes "num")).1 e

by_cases : (t : Bool) → (t ≡ true) ⊎ (t ≡ false)
by_cases true = inl refl
by_cases false = inr refl

differ : {P : Type 0} (t : Bool) → t ≡ true → t ≡ false → P
differ t e f = let clash : true ≡ false = sym e ∙ f in cc

-- ---- what lines define and use

-- what is said is all that a line reads as
said_is : (text : List ℕ) (o : Option Content) (c : Content) → IsSaid text o → ReadsAs text c
    → o ≡ Some c
said_is text None c h r = absurd (h c r)
said_is text (Some d) c h r = ap Some (sym (h.1 c r))

in_front : {X : Type 0} (x : X) (xs ys : List X) → IsIn x xs → IsIn x (xs ++ ys)
in_front x [] ys h = absurd h
in_front x (z ∷ xs) ys (inl e) = inl e
in_front x (z ∷ xs) ys (inr i) = inr (in_front x xs ys i)

in_back : {X : Type 0} (x : X) (xs ys : List X) → IsIn x ys → IsIn x (xs ++ ys)
in_back x [] ys h = h
in_back x (z ∷ xs) ys h = inr (in_back x xs ys h)

in_either : {X : Type 0} (x : X) (xs ys : List X) → IsIn x (xs ++ ys) → IsIn x xs ⊎ IsIn x ys
in_either x [] ys h = inr h
in_either x (z ∷ xs) ys (inl e) = inl (inl e)
in_either x (z ∷ xs) ys (inr i) = elim (in_either x xs ys i) [ inl a ↦ inl (inr a) | inr b ↦ inr b ]

name_defined : (ls : List Line) (rs : List SaidLine) → AreSaid ls rs → (line : Line) → IsIn line ls
    → (name : List ℕ) (args : List (List ℕ)) → ReadsAs line.text (Declares name args)
    → IsIn name (names_in rs)
name_defined [] rs said line i name args r = absurd i
name_defined (l ∷ ls) [] said line i name args r = absurd said
name_defined (l ∷ ls) (x ∷ rs) said line (inl e) name args r =
    let is : x.content ≡ Some (Declares name args) =
    said_is l.text x.content (Declares name args)
    said.0.1 (subst (λ (m : Line). ReadsAs m.text (Declares name args)) e r) in
    let here : IsIn name (name ∷ []) = inl refl in
    in_front name (defined_by x.content) (names_in rs)
    (subst (λ o. IsIn name (defined_by o)) (sym is) here)
name_defined (l ∷ ls) (x ∷ rs) said line (inr i) name args r =
    in_back name (defined_by x.content) (names_in rs) (name_defined ls rs said.1 line i name args r)

defined_name : (ls : List Line) (rs : List SaidLine) → AreSaid ls rs → (name : List ℕ)
    → IsIn name (names_in rs) → IsDefinedBy ls name
defined_name [] [] said name i = absurd i
defined_name [] (x ∷ rs) said name i = absurd said
defined_name (l ∷ ls) [] said name i = absurd said
defined_name (l ∷ ls) (x ∷ rs) said name i =
    elim (in_either name (defined_by x.content) (names_in rs) i) [
      | inl a ↦ here x.content said.0.1 a
      | inr b ↦ (let d = defined_name ls rs said.1 name b in
          record { line = d.line; stands = inr d.stands; args = d.args; reads = d.reads })
    ]
  where
    here : (o : Option Content) → IsSaid l.text o → IsIn name (defined_by o)
        → IsDefinedBy (l ∷ ls) name
    here None h a = absurd a
    here (Some (Declares n args)) h (inl e) = record {
      line = l;
      stands = inl refl;
      args = args;
      reads = subst (λ m. ReadsAs l.text (Declares m args)) (sym e) h.0;
    }
    here (Some (Declares n args)) h (inr a) = absurd a
    here (Some (Uses s n)) h a = absurd a

spell_used : (ls : List Line) (rs : List SaidLine) → AreSaid ls rs → (line : Line) → IsIn line ls
    → (spell name : List ℕ) → ReadsAs line.text (Uses spell name) → IsIn spell (spells_in rs)
spell_used [] rs said line i spell name r = absurd i
spell_used (l ∷ ls) [] said line i spell name r = absurd said
spell_used (l ∷ ls) (x ∷ rs) said line (inl e) spell name r =
    let is : x.content ≡ Some (Uses spell name) =
    said_is l.text x.content (Uses spell name)
    said.0.1 (subst (λ (m : Line). ReadsAs m.text (Uses spell name)) e r) in
    let here : IsIn spell (spell ∷ []) = inl refl in
    in_front spell (used_by x.content) (spells_in rs)
    (subst (λ o. IsIn spell (used_by o)) (sym is) here)
spell_used (l ∷ ls) (x ∷ rs) said line (inr i) spell name r =
    in_back spell (used_by x.content) (spells_in rs) (spell_used ls rs said.1 line i spell name r)

used_spell : (ls : List Line) (rs : List SaidLine) → AreSaid ls rs → (spell : List ℕ)
    → IsIn spell (spells_in rs) → IsUsedBy ls spell
used_spell [] [] said spell i = absurd i
used_spell [] (x ∷ rs) said spell i = absurd said
used_spell (l ∷ ls) [] said spell i = absurd said
used_spell (l ∷ ls) (x ∷ rs) said spell i =
    elim (in_either spell (used_by x.content) (spells_in rs) i) [
      | inl a ↦ here x.content said.0.1 a
      | inr b ↦ (let d = used_spell ls rs said.1 spell b in
          record { line = d.line; stands = inr d.stands; name = d.name; reads = d.reads })
    ]
  where
    here : (o : Option Content) → IsSaid l.text o → IsIn spell (used_by o) → IsUsedBy (l ∷ ls) spell
    here None h a = absurd a
    here (Some (Declares n args)) h a = absurd a
    here (Some (Uses s n)) h (inl e) = record {
      line = l;
      stands = inl refl;
      name = n;
      reads = subst (λ m. ReadsAs l.text (Uses m n)) (sym e) h.0;
    }
    here (Some (Uses s n)) h (inr a) = absurd a

-- ---- the least of what is wrong

-- What is computed holds, and is the least that does.
pub record IsLeast (P : ℕ → Type 0) (o : Option ℕ) : Type 0 where
  pub holds : (k : ℕ) → o ≡ Some k → P k
  pub least : (j : ℕ) → P j → (k : ℕ) × (o ≡ Some k) × (k ≤ j)

module _ (all before : List Line) (line : Line) where
  no_form : ((c : Content) → ReadsAs line.text c → ⊥)
      → IsLeast (IsWrongLine all before line) (Some 1)
  no_form none = record {
    holds = λ k e. (let is : 1 ≡ k = cc in inl (sym is, none));
    least = λ j w. elim w [
      | inl a ↦ (1, refl, omega (arith, a.0))
      | inr (inl b) ↦ absurd (none b.1.0 b.1.1)
      | inr (inr d) ↦ absurd (none d.1.0 d.1.1)
    ];
  }

  module _ (c : Content) (reads : ReadsAs line.text c)
      (only : (d : Content) → ReadsAs line.text d → d ≡ c) where
    by_tests : (u v : Bool) → (u ≡ true → IsRepeated before c) → (IsRepeated before c → u ≡ true)
        → (v ≡ false → IsUndefined all c) → (IsUndefined all c → v ≡ false)
        → IsLeast (IsWrongLine all before line) (wrong_by u v)
    by_tests true v rep is_rep undef is_undef = record {
      holds = λ k e. (let is : 2 ≡ k = cc in inr (inl (sym is, (c, reads, rep refl))));
      least = λ j w. elim w [
        | inl a ↦ absurd (a.1 c reads)
        | inr (inl b) ↦ (2, refl, omega (arith, b.0))
        | inr (inr d) ↦ (2, refl, omega (arith, d.0))
      ];
    }
    by_tests false true rep is_rep undef is_undef = record {
      holds = λ k e. cc;
      least = λ j w. elim w [
        | inl a ↦ absurd (a.1 c reads)
        | inr (inl b) ↦ (let clash : false ≡ true =
            is_rep (subst (IsRepeated before) (only b.1.0 b.1.1) b.1.2) in cc)
        | inr (inr d) ↦ (let clash : true ≡ false =
            is_undef (subst (IsUndefined all) (only d.1.0 d.1.1) d.1.2) in cc)
      ];
    }
    by_tests false false rep is_rep undef is_undef = record {
      holds = λ k e. (let is : 3 ≡ k = cc in inr (inr (sym is, (c, reads, undef refl))));
      least = λ j w. elim w [
        | inl a ↦ absurd (a.1 c reads)
        | inr (inl b) ↦ (let clash : false ≡ true =
            is_rep (subst (IsRepeated before) (only b.1.0 b.1.1) b.1.2) in cc)
        | inr (inr d) ↦ (3, refl, omega (arith, d.0))
      ];
    }

-- ---- a line among others

-- lines, and what is said by them and by the first of them
module _ (all before : List Line) (every behind : List SaidLine) (said : AreSaid all every)
    (said_before : AreSaid before behind) where
  known : (name : List ℕ) → is_known (names_in every) name ≡ false → IsUnknown all name
  known name e = (
    λ b. differ (is_known (names_in every) name)
        (ap (λ t. t || is_among name (names_in every)) (is_built name b)) e,
    λ d. go (is_built_in name) e (is_in_list name (names_in every)
        (name_defined all every said d.line d.stands name d.args d.reads)),
  )
    where
      go : (t : Bool) → t || is_among name (names_in every) ≡ false
          → is_among name (names_in every) ≡ true → ⊥
      go true f g = let clash = f in cc
      go false f g = differ (is_among name (names_in every)) g f

  unknown : (name : List ℕ) → IsUnknown all name → is_known (names_in every) name ≡ false
  unknown name h = go (is_built_in name) refl (is_among name (names_in every)) refl
    where
      go : (t : Bool) → is_built_in name ≡ t → (u : Bool) → is_among name (names_in every) ≡ u
          → t || u ≡ false
      go true c u d = absurd (h.0 (built_in name c))
      go false c true d =
          absurd (h.1 (defined_name all every said name (in_list name (names_in every) d)))
      go false c false d = refl

  some_unknown : (args : List (List ℕ)) → list_all (is_known (names_in every)) args ≡ false
      → (a : List ℕ) × IsIn a args × IsUnknown all a
  some_unknown [] e = let clash = e in cc
  some_unknown (a ∷ args) e = go (is_known (names_in every) a) refl e (some_unknown args)
    where
      go : (t : Bool) → is_known (names_in every) a ≡ t
          → t && list_all (is_known (names_in every)) args ≡ false
          → (list_all (is_known (names_in every)) args ≡ false
          → (b : List ℕ) × IsIn b args × IsUnknown all b)
          → (b : List ℕ) × IsIn b (a ∷ args) × IsUnknown all b
      go true c f ih = let x = ih f in (x.0, inr x.1, x.2)
      go false c f ih = (a, inl refl, known a c)

  not_all_known : (args : List (List ℕ)) (a : List ℕ) → IsIn a args → IsUnknown all a
      → list_all (is_known (names_in every)) args ≡ false
  not_all_known [] a i h = absurd i
  not_all_known (b ∷ args) a (inl e) h = ap (λ t. t && list_all (is_known (names_in every)) args)
      (unknown b (subst (IsUnknown all) e h))
  not_all_known (b ∷ args) a (inr i) h = go (is_known (names_in every) b) (not_all_known args a i h)
    where
      go : (t : Bool) → list_all (is_known (names_in every)) args ≡ false
          → t && list_all (is_known (names_in every)) args ≡ false
      go true f = f
      go false f = refl

  -- the name of a sort that is defined behind them
  module _ (name : List ℕ) (ys : List (List ℕ))
      (are : names_in every ≡ names_in behind ++ name ∷ ys) where
    place_is :
        is_place (first_place name (names_in every)) (length (names_in behind))
        ≡ cond (is_among name (names_in behind)) false true
    place_is = ap (λ l. is_place (first_place name l) (length (names_in behind))) are
        ∙ own_place name (names_in behind) ys

    repeated : is_repeated (names_in every) (length (names_in behind)) name ≡ true
        → IsBuiltIn name ⊎ IsDefinedBy before name
    repeated e = go (is_built_in name) refl (is_among name (names_in behind)) refl
        (ap (λ t. is_built_in name || not t) (sym place_is) ∙ e)
      where
        go : (t : Bool) → is_built_in name ≡ t → (u : Bool) → is_among name (names_in behind) ≡ u
            → is_built_in name || not (cond (is_among name (names_in behind)) false true) ≡ true
            → IsBuiltIn name ⊎ IsDefinedBy before name
        go true c u d f = inl (built_in name c)
        go false c true d f =
            inr (defined_name before behind said_before name (in_list name (names_in behind) d))
        go false c false d f =
            let clash : false ≡ true = (λ i. sym c i || not (cond (sym d i) false true)) ∙ f in
            cc

    is_repeated_too : IsBuiltIn name ⊎ IsDefinedBy before name
        → is_repeated (names_in every) (length (names_in behind)) name ≡ true
    is_repeated_too (inl b) =
        ap (λ t. t || not (is_place (first_place name (names_in every)) (length (names_in behind))))
        (is_built name b)
    is_repeated_too (inr d) =
        let there : is_among name (names_in behind) ≡ true =
        is_in_list name (names_in behind)
        (name_defined before behind said_before d.line d.stands name d.args d.reads) in
        go (is_built_in name) (place_is ∙ ap (λ t. cond t false true) there)
      where
        go : (t : Bool)
            → is_place (first_place name (names_in every)) (length (names_in behind)) ≡ false
            → t || not (is_place (first_place name (names_in every)) (length (names_in behind)))
            ≡ true
        go true e = refl
        go false e = ap not e

  used_before : (spell : List ℕ) → is_among spell (spells_in behind) ≡ true → IsUsedBy before spell
  used_before spell e =
      used_spell before behind said_before spell (in_list spell (spells_in behind) e)

  is_used_before : (spell : List ℕ) → IsUsedBy before spell
      → is_among spell (spells_in behind) ≡ true
  is_used_before spell u = is_in_list spell (spells_in behind)
      (spell_used before behind said_before u.line u.stands spell u.name u.reads)

  undefined : (name : List ℕ) → is_among name (names_in every) ≡ false → IsDefinedBy all name → ⊥
  undefined name e d = differ (is_among name (names_in every)) (is_in_list name (names_in every)
      (name_defined all every said d.line d.stands name d.args d.reads)) e

  is_undefined : (name : List ℕ) → (IsDefinedBy all name → ⊥)
      → is_among name (names_in every) ≡ false
  is_undefined name h = elim (by_cases (is_among name (names_in every))) [
    | inl e ↦ absurd (h (defined_name all every said name (in_list name (names_in every) e)))
    | inr e ↦ e
  ]

  -- what is wrong with the line that stands behind those
  pub wrong_line : (line : Line) (r : SaidLine) (ys : List (List ℕ)) → IsSaidLine line r
      → names_in every ≡ names_in behind ++ (defined_by r.content ++ ys)
      → IsLeast (IsWrongLine all before line)
      (wrong_in (names_in every) (length (names_in behind)) (spells_in behind) r.content)
  wrong_line line r ys s are = go r.content s.1 are
    where
      go : (o : Option Content) → IsSaid line.text o
          → names_in every ≡ names_in behind ++ (defined_by o ++ ys)
          → IsLeast (IsWrongLine all before line)
          (wrong_in (names_in every) (length (names_in behind)) (spells_in behind) o)
      go None h e = no_form all before line h
      go (Some (Declares name args)) h e =
          by_tests all before line (Declares name args)
          h.0 h.1 (is_repeated (names_in every) (length (names_in behind)) name)
          (list_all (is_known (names_in every)) args)
          (repeated name ys e) (is_repeated_too name ys e) (some_unknown args)
          (λ x. not_all_known args x.0 x.1 x.2)
      go (Some (Uses spell name)) h e =
          by_tests all before line (Uses spell name) h.0 h.1 (is_among spell (spells_in behind))
          (is_among name (names_in every))
          (used_before spell) (is_used_before spell) (undefined name) (is_undefined name)
