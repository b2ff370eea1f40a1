-- The entries of a scope, read by the bytes of their spellings, and where those stand.
use Rattle.std.proofs.Common.{◌≡◌, ℕ, suc, ◌<◌, List, [], ◌∷◌, ◌++◌, length, get_or, Option, Some}
use Rattle.std.proofs.Common.{None, Bool, true, false, cond, refl, sym, ap, subst, ◌∙◌, arith}
use Rattle.std.specs.Str.{bytes_eq}
use Rattle.std.specs.Ordering.{nat_cmp}
use Rattle.std.specs.Prelude.{Vec}
use Rattle.std.specs.Cmp.{eq_by_cmp_equiv}
use Rattle.std.specs.Cmp.Lexicographic.{slice_cmp, nat_list_cmp_total}
use Rattle.std.specs.Map.{KeepsOthers}
use Rattle.std.specs.BTreeMap.{BTreeMap, get_by, is_at, UpdatesBy}
use Rattle.std.specs.declared.alloc.Global.{Global}
use Rattle.std.proofs.lemmas.Map.Text.{is_eq-slice_cmp}
use Rattle.std.proofs.lemmas.Slice.Eq.{bytes_eq-Decides}
use denote.Ref.{Bor}
use Rattle.scope_names.specs.declared.scope.Entry.{Entry}
use Rattle.scope_names.specs.Frames.{in_frame, spelled}
use Rattle.scope_names.specs.inside.Places.{one_further, place_of, KnowsPlaces}

spelled-append : (es fs : List (Bor (List ℕ) × Entry))
    → spelled (es ++ fs) ≡ spelled es ++ spelled fs
spelled-append [] fs = refl
spelled-append (e ∷ es) fs = ap (λ r. (e.0.now, e.1) ∷ r) (spelled-append es fs)

spelled-length : (es : List (Bor (List ℕ) × Entry)) → length (spelled es) ≡ length es
spelled-length [] = refl
spelled-length (e ∷ es) = ap suc (spelled-length es)

-- ---- the entry at its place

pub place_low : (name : List ℕ) (es : List (Bor (List ℕ) × Entry)) (i : ℕ)
    → place_of name (spelled es) ≡ Some i → i < length es
place_low name [] i p = cc
place_low name (e ∷ es) i p =
    go (bytes_eq name e.0.now) (place_of name (spelled es)) (place_low name es) p
  where
    go : (u : Bool) (o : Option ℕ) → ((j : ℕ) → o ≡ Some j → j < length es)
        → cond u (Some 0) (one_further o) ≡ Some i → i < length (e ∷ es)
    go true o low q = let same : 0 ≡ i = cc in omega arith
    go false None low q = cc
    go false (Some j) low q =
        let same : suc j ≡ i = cc in
        let below = low j refl in
        omega arith

pub entry_there : (name : List ℕ) (es : List (Bor (List ℕ) × Entry)) (i : ℕ)
    (d : Bor (List ℕ) × Entry) → place_of name (spelled es) ≡ Some i
    → Some (get_or es i d).1 ≡ in_frame name (spelled es)
entry_there name [] i d p = cc
entry_there name (e ∷ es) i d p = go (bytes_eq name e.0.now)
    (place_of name (spelled es)) (λ j. entry_there name es j d) p
  where
    go : (u : Bool) (o : Option ℕ)
        → ((j : ℕ) → o ≡ Some j → Some (get_or es j d).1 ≡ in_frame name (spelled es))
        → cond u (Some 0) (one_further o) ≡ Some i
        → Some (get_or (e ∷ es) i d).1 ≡ cond u (Some e.1) (in_frame name (spelled es))
    go true o there q =
        let same : 0 ≡ i = cc in ap (λ k. Some (get_or (e ∷ es) k d).1) (sym same)
    go false None there q = cc
    go false (Some j) there q =
        let same : suc j ≡ i = cc in
        ap (λ k. Some (get_or (e ∷ es) k d).1) (sym same) ∙ there j refl

pub none_there : (name : List ℕ) (frame : List (List ℕ × Entry)) → place_of name frame ≡ None
    → None ≡ in_frame name frame
none_there name [] p = refl
none_there name (e ∷ frame) p =
    go (bytes_eq name e.0) (place_of name frame) (none_there name frame) p
  where
    go : (u : Bool) (o : Option ℕ) → (o ≡ None → None ≡ in_frame name frame)
        → cond u (Some 0) (one_further o) ≡ None → None ≡ cond u (Some e.1) (in_frame name frame)
    go true o none q = cc
    go false None none q = none refl
    go false (Some j) none q = cc

-- ---- one entry more

same_bytes : (xs ys : List ℕ) → bytes_eq xs ys ≡ bytes_eq ys xs
same_bytes xs ys = go (bytes_eq xs ys) refl (bytes_eq ys xs) refl
  where
    go : (u : Bool) → bytes_eq xs ys ≡ u → (v : Bool) → bytes_eq ys xs ≡ v → u ≡ v
    go true c true d = refl
    go true c false d =
        let clash : bytes_eq ys xs ≡ true =
        (bytes_eq-Decides ys xs).1 (sym ((bytes_eq-Decides xs ys).0 c)) in
        cc
    go false c true d =
        let clash : bytes_eq xs ys ≡ true =
        (bytes_eq-Decides xs ys).1 (sym ((bytes_eq-Decides ys xs).0 d)) in
        cc
    go false c false d = refl

-- where the new spelling stands, all others stand as before
place_with : (new : List ℕ) (x : Entry) (frame : List (List ℕ × Entry)) → in_frame new frame ≡ None
    → (name : List ℕ)
    → place_of name (frame ++ (new, x) ∷ [])
    ≡ cond (bytes_eq new name) (Some (length frame)) (place_of name frame)
place_with new x [] none name = ap (λ u. cond u (Some 0) None) (same_bytes name new)
place_with new x (e ∷ frame) none name =
    go (bytes_eq new e.0) refl (bytes_eq name e.0) refl (bytes_eq new name) refl none
    (λ h. place_with new x frame h name)
  where
    go : (u : Bool) → bytes_eq new e.0 ≡ u → (v : Bool) → bytes_eq name e.0 ≡ v
        → (w : Bool) → bytes_eq new name ≡ w → cond u (Some e.1) (in_frame new frame) ≡ None
        → (in_frame new frame ≡ None → place_of name (frame ++ (new, x) ∷ [])
        ≡ cond w (Some (length frame)) (place_of name frame))
        → cond v (Some 0) (one_further (place_of name (frame ++ (new, x) ∷ [])))
        ≡ cond w (Some (suc (length frame))) (cond v (Some 0) (one_further (place_of name frame)))
    go true a v b w c h ih = cc
    go false a true b true c h ih =
        let same : new ≡ e.0 =
        (bytes_eq-Decides new name).0 c ∙ (bytes_eq-Decides name e.0).0 b in
        let clash : bytes_eq new e.0 ≡ true = (bytes_eq-Decides new e.0).1 same in
        cc
    go false a true b false c h ih = refl
    go false a false b true c h ih = ap one_further (ih h)
    go false a false b false c h ih = ap one_further (ih h)

-- the map finds what was put into it, and all else that it found before
module _ (before after : BTreeMap (Vec ℕ Global) ℕ) (key : List ℕ) (o : Option ℕ)
    (updates : UpdatesBy (λ x y. slice_cmp nat_cmp x.items y.items)
    (λ x. slice_cmp nat_cmp key x.items) before after o) where
  kept : (name : List ℕ) → bytes_eq key name ≡ false
      → get_by (λ x. slice_cmp nat_cmp name x.items) after
      ≡ get_by (λ x. slice_cmp nat_cmp name x.items) before
  unfolding KeepsOthers
  kept name other = updates.3 (is_at (λ x. slice_cmp nat_cmp name x.items))
      (λ x y. (eq_by_cmp_equiv nat_list_cmp_total).congr name x.items y.items)
      (λ x same.
      let equal : key ≡ x.items =
      (bytes_eq-Decides key x.items).0 (sym (is_eq-slice_cmp key x.items) ∙ same) in
      is_eq-slice_cmp name x.items ∙ ap (bytes_eq name) (sym equal)
      ∙ same_bytes name key ∙ other)

  put_in : (name : List ℕ)
      → get_by (λ x. slice_cmp nat_cmp name x.items) after
      ≡ cond (bytes_eq key name) o (get_by (λ x. slice_cmp nat_cmp name x.items) before)
  put_in name = go (bytes_eq key name) refl
    where
      go : (u : Bool) → bytes_eq key name ≡ u
          → get_by (λ x. slice_cmp nat_cmp name x.items) after
          ≡ cond u o (get_by (λ x. slice_cmp nat_cmp name x.items) before)
      go true same = subst (λ l. get_by (λ x. slice_cmp nat_cmp l x.items) after ≡ o)
          ((bytes_eq-Decides key name).0 same) updates.1
      go false other = kept name other

pub places_more :
    (before after : BTreeMap (Vec ℕ Global) ℕ) (old new : List (Bor (List ℕ) × Entry))
    (key : Vec ℕ Global) (k : Bor (List ℕ)) (x : Entry) (place : ℕ)
    (frame : List (List ℕ × Entry)) → spelled old ≡ frame → KnowsPlaces before (spelled old)
    → in_frame k.now frame ≡ None → key.items ≡ k.now → new ≡ old ++ (k, x) ∷ []
    → place ≡ length old
    → UpdatesBy (λ a b. slice_cmp nat_cmp a.items b.items)
    (λ a. slice_cmp nat_cmp key.items a.items)
    before after (Some place) → KnowsPlaces after (spelled new)
places_more before after old new key k x place frame is knows none copied more at updates name =
    put_in before after key.items (Some place) updates name
    ∙ (λ i. cond (bytes_eq (copied i) name)
    (Some ((at ∙ sym (spelled-length old)) i)) (knows name i))
    ∙ sym (place_with k.now x (spelled old) (ap (in_frame k.now) is ∙ none) name)
    ∙ sym (ap (place_of name) (ap spelled more ∙ spelled-append old ((k, x) ∷ [])))

pub spelled_more : (old new : List (Bor (List ℕ) × Entry)) (k : Bor (List ℕ)) (x : Entry)
    (frame : List (List ℕ × Entry)) → spelled old ≡ frame → new ≡ old ++ (k, x) ∷ []
    → spelled new ≡ frame ++ (k.now, x) ∷ []
spelled_more old new k x frame is more =
    ap spelled more ∙ spelled-append old ((k, x) ∷ []) ∙ ap (λ f. f ++ (k.now, x) ∷ []) is
