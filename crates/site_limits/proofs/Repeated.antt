-- Environments one after another, of which each may be the one before it.
use Rattle.std.proofs.Common.{◌≡◌, ℕ, ◌+◌, ◌<◌, ◌≤◌, List, ◌∷◌, true, length, drop, sym, ap, ◌∙◌}
use Rattle.std.proofs.Common.{subst}
use Rattle.std.specs.Prelude.{◌&&◌, slice_index_or}
use Rattle.std.proofs.lemmas.Bool.{and_parts, and_from}
use Rattle.std.proofs.lemmas.List.{drop_more}
use Rattle.chem_model.specs.declared.name.Name.{Name}
use Rattle.chem_model.specs.Numbered.{same_name}
use Rattle.chem_laws.proofs.Taking.{same_name_is}
use Rattle.net_laws.specs.Site.{Told}
use Rattle.site_shelves.specs.Named.{names_in}
use Rattle.site_shelves.specs.Draws.{told_drawn}
use Rattle.site_shelves.proofs.Walked.{drop-past}
use Rattle.site_limits.specs.declared.known.Known.{Known}
use Rattle.site_limits.specs.Limits.{Limits, told_within}
use Rattle.site_limits.specs.Knows.{limits_of, Noted, AreNoted}
use Rattle.site_limits.proofs.Learned.{noted-nothing, noted-then, noted-both}
use Rattle.site_limits.proofs.Stays.{names-stay, numbers-stay}

-- ---- names one by one

-- at one place they are the same
pub same-next : (ns ms : List Name) (i : ℕ) (d e : Name) → i < length ns → i < length ms
    → same_name (slice_index_or ns i d) (slice_index_or ms i e) ≡ true
    → (drop i ns ≡ drop i ms → ns ≡ ms) → drop (i + 1) ns ≡ drop (i + 1) ms → ns ≡ ms
same-next ns ms i d e one other same before rest =
    before
    (drop_more ns i d one
    ∙ ap (λ (n : Name). n ∷ drop (i + 1) ns)
    (same_name_is (slice_index_or ns i d) (slice_index_or ms i e) same)
    ∙ ap (λ (ks : List Name). slice_index_or ms i e ∷ ks) rest ∙ sym (drop_more ms i e other))

-- at all places they were
pub same-past : (ns ms : List Name) (i : ℕ) → length ns ≤ i → length ms ≤ i
    → (drop i ns ≡ drop i ms → ns ≡ ms) → ns ≡ ms
same-past ns ms i one other before = before (drop-past ns i one ∙ sym (drop-past ms i other))

-- ---- what is noted

-- the environment is the one before
pub noted-again : (a : Known) (env before : List Name) → env ≡ before → AreNoted a before
    → Noted a a (λ e. names_in e.known env ≡ true)
noted-again a env before same noted kept =
    noted-nothing a (λ e. names_in e.known env ≡ true)
    (subst (λ (ns : List Name). names_in (limits_of a).known ns ≡ true) (sym same) (noted kept))
    kept

pub noted-told : (number : ℕ) (d : Told) (a b c e : Known)
    → Noted a b (λ x. names_in x.known d.inst.env ≡ true)
    → Noted b c (λ x. told_drawn number x.drawn d ≡ true) → Noted c e (λ x. x.shaped d ≡ true)
    → Noted a e (λ x. told_within x number d ≡ true)
noted-told number d a b c e names numbers shape =
    noted-then a b e (λ x. names_in x.known d.inst.env ≡ true)
    (λ x. told_drawn number x.drawn d && x.shaped d ≡ true)
    (λ x. told_within x number d ≡ true) (names-stay d.inst.env) all names
    (noted-both b c e (λ x. told_drawn number x.drawn d) (λ x. x.shaped d) (numbers-stay number d)
    numbers shape)
  where
    all : (x : Limits) → names_in x.known d.inst.env ≡ true
        → told_drawn number x.drawn d && x.shaped d ≡ true → told_within x number d ≡ true
    all x h k =
        let both = and_parts (told_drawn number x.drawn d) (x.shaped d) k in
        and_from (told_drawn number x.drawn d) (names_in x.known d.inst.env && x.shaped d) both.0
        (and_from (names_in x.known d.inst.env) (x.shaped d) h both.1)

-- the environment of a group that is noted
pub env-noted : (number : ℕ) (d : Told) (a b : Known)
    → Noted a b (λ e. told_within e number d ≡ true) → AreNoted b d.inst.env
env-noted number d a b f kept =
    let l = limits_of b in
    let both = and_parts (told_drawn number l.drawn d) (names_in l.known d.inst.env && l.shaped d)
    (f kept).holds in
    (and_parts (names_in l.known d.inst.env) (l.shaped d) both.1).0
