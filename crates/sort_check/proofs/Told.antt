-- The sorts that a map gives to spellings.
use Rattle.std.proofs.Common.{◌≡◌, ℕ, zero, suc, ◌+◌, ◌<◌, List, [], ◌∷◌, Option, Some, None, Bool}
use Rattle.std.proofs.Common.{true, false, cond, drop, get_or, refl, sym, ap, ◌∙◌, arith, length}
use Rattle.std.specs.Str.{bytes_eq}
use Rattle.std.specs.Map.{lookup}
use Rattle.std.specs.Ordering.{nat_cmp}
use Rattle.std.specs.Cmp.Lexicographic.{slice_cmp}
use Rattle.std.specs.BTreeMap.{BTreeMap, is_at, UpdatesBy}
use Rattle.std.proofs.lemmas.Map.Text.{is_eq-slice_cmp, btree_map_updates_str}
use Rattle.std.proofs.lemmas.Slice.Eq.{bytes_eq-Decides}
use denote.Ref.{Bor}
use Rattle.sort_laws.specs.declared.sorts.SortArg.{SortArg}
use Rattle.sort_laws.specs.declared.sorts.SortArg.TheVariants as arg
use Rattle.sort_laws.specs.declared.sorts.SortUse.{SortUse}
use Rattle.sort_laws.specs.Table.{used_as}
use Rattle.sort_check.specs.inside.Told.{spelled, in_map, Overrides, TellsAs}

abbrev pub named : Option ℕ → Option SortArg
named None = None
named (Some i) = Some (arg.Named i)

-- read by its bytes
pub found : (text : List ℕ) (es : List (Bor (List ℕ) × ℕ))
    → named (lookup (is_at (λ k. slice_cmp nat_cmp text k.now)) es) ≡ in_map (spelled es) text
found text [] = refl
found text (e ∷ es) =
    ap (λ b. named (cond b (Some e.1) (lookup (is_at (λ k. slice_cmp nat_cmp text k.now)) es)))
    (is_eq-slice_cmp text e.0.now) ∙ go (bytes_eq text e.0.now) (found text es)
  where
    go : (b : Bool)
        → named (lookup (is_at (λ k. slice_cmp nat_cmp text k.now)) es) ≡ in_map (spelled es) text
        → named (cond b (Some e.1) (lookup (is_at (λ k. slice_cmp nat_cmp text k.now)) es))
        ≡ cond b (Some (arg.Named e.1)) (in_map (spelled es) text)
    go true ih = refl
    go false ih = ih

same_bytes : (xs ys : List ℕ) → bytes_eq xs ys ≡ bytes_eq ys xs
same_bytes xs ys = go (bytes_eq xs ys) refl (bytes_eq ys xs) refl
  where
    go : (u : Bool) → bytes_eq xs ys ≡ u → (v : Bool) → bytes_eq ys xs ≡ v → u ≡ v
    go true c true d = refl
    go true c false d =
        let clash : bytes_eq ys xs ≡ true =
        (bytes_eq-Decides ys xs).1 (sym ((bytes_eq-Decides xs ys).0 c)) in
        cc
    go false c true d =
        let clash : bytes_eq xs ys ≡ true =
        (bytes_eq-Decides xs ys).1 (sym ((bytes_eq-Decides ys xs).0 d)) in
        cc
    go false c false d = refl

named_if : (b : Bool) (sort : ℕ) (o : Option ℕ)
    → named (cond b (Some sort) o) ≡ cond b (Some (arg.Named sort)) (named o)
named_if true sort o = refl
named_if false sort o = refl

-- a line more
pub put_line :
    (before after : BTreeMap (Bor (List ℕ)) ℕ) (map : List (List ℕ × ℕ)) (k : Bor (List ℕ))
    (line : SortUse) → spelled before.entries ≡ map → k.now ≡ line.spell
    → UpdatesBy (λ x y. slice_cmp nat_cmp x.now y.now) (λ x. slice_cmp nat_cmp k.now x.now) before
    after (Some line.sort) → Overrides map line (spelled after.entries)
put_line before after map k line is spell updates text =
    sym (found text after.entries)
    ∙ ap named (btree_map_updates_str k.now before after (Some line.sort) updates text)
    ∙ named_if (bytes_eq k.now text) line.sort
    (lookup (is_at (λ x. slice_cmp nat_cmp text x.now)) before.entries)
    ∙ (λ j. cond ((same_bytes k.now text ∙ ap (bytes_eq text) spell) j)
    (Some (arg.Named line.sort))
    ((found text before.entries ∙ ap (λ m. in_map m text) is) j))

drop_line : (lines : List SortUse) (left : ℕ) (line : SortUse) → left < length lines
    → line ≡ get_or lines left line → drop left lines ≡ line ∷ drop (suc left) lines
drop_line [] left line h g = absurd (omega arith)
drop_line (x ∷ lines) zero line h g = ap (λ y. y ∷ lines) (sym g)
drop_line (x ∷ lines) (suc left) line h g = drop_line lines left line (omega arith) g

pub told_more :
    (lines : List SortUse) (old new : List (List ℕ × ℕ)) (left before : ℕ) (line : SortUse)
    → before ≡ left + 1 → left < length lines → line ≡ get_or lines left line
    → TellsAs (drop before lines) old → Overrides old line new → TellsAs (drop left lines) new
told_more lines old new left before line b h g told put text =
    let after : before ≡ suc left = omega (arith, b) in
    let here : drop left lines ≡ line ∷ drop before lines =
    drop_line lines left line h g ∙ ap (λ k. line ∷ drop k lines) (sym after) in
    put text ∙ ap (cond (bytes_eq text line.spell) (Some (arg.Named line.sort))) (told text)
    ∙ ap (λ ls. used_as ls text) (sym here)
