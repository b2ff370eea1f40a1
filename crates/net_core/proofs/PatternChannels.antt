-- Each channel of a level is that of a pattern of its rules, and stands once among the level's
-- channels.
use Rattle.std.proofs.Common.{◌≡◌, ℕ, zero, suc, ◌+◌, ◌<◌, List, [], ◌∷◌, ◌++◌, ◌==◌, length, Some}
use Rattle.std.proofs.Common.{Bool, true, false, cond, refl, sym, ap, ◌∙◌, subst, arith, inl, inr}
use Rattle.std.proofs.Common.{◌⊎◌, eq-eqb, append-nil}
use Rattle.std.specs.Prelude.{slice_get, ◌||◌}
use Rattle.chem_model.specs.declared.name.Ref.{Ref}
use Rattle.chem_model.specs.declared.name.Ref.TheVariants.{Binder, Known}
use Rattle.chem_model.specs.declared.name.Pat.{Pat}
use Rattle.chem_model.specs.declared.program.SiteTerm.{SiteTerm}
use Rattle.chem_model.specs.Process.{Process, Msg, Par, Def, Go, Fail, Halt, Processes, none}
use Rattle.chem_model.specs.Process.{one_more, Rule, Place, Definitions, no_definition, and_also}
use Rattle.chem_model.specs.Process.{definitions}
use Rattle.chem_model.specs.Binders.{params_of, binder_of, is_among}
use Rattle.chem_model.specs.Each.{Each}
use Rattle.chem_model.specs.ProgramFacts.{ProgramTerms}
use Rattle.chem_laws.proofs.Lists.{Each-append, Each-weaker}
use Rattle.chem_laws.proofs.Terms.{among-append, among_right}
use Rattle.env_store.specs.Layout.{new_ref, new_in, new_channels, place_order, order, LevelTerm}
use Rattle.env_store.specs.Layout.{levels_of, levels_of_all, levels_of_defs, levels_of_def}
use Rattle.env_store.specs.Layout.{levels_of_site, levels_of_sites, levels_of_program}
use Rattle.env_store.specs.Reading.{position_from, position}
use Rattle.net_laws.proofs.Holds.{each_get}
use Rattle.net_laws.proofs.Posting.{append_one}
use Rattle.site_solution.proofs.Walked.{there}

-- ---- patterns on a binder

abbrev pub OnPats : List Pat → ℕ → Type 0
OnPats [] b = ⊥
OnPats (p ∷ ps) b = (p.on ≡ Binder b) ⊎ OnPats ps b

-- of the rules of a level
abbrev pub OnDefs : Definitions → ℕ → Type 0
OnDefs no_definition b = ⊥
OnDefs (and_also (Rule ps q) ds) b = OnPats ps b ⊎ OnDefs ds b
OnDefs (and_also (Place x es q) ds) b = OnDefs ds b

ref_on : (acc : List ℕ) (r : Ref) (P : ℕ → Type 0) → ((b : ℕ) → r ≡ Binder b → P b)
    → Each P (new_ref acc r)
ref_on acc (Binder b) P h = go (is_among acc b)
  where
    go : (t : Bool) → Each P (cond t [] (b ∷ []))
    go true = tt
    go false = (h b refl, tt)
ref_on acc (Known n) P h = tt

pats_on : (acc : List ℕ) (ps : List Pat) → Each (OnPats ps) (new_in acc ps)
pats_on acc [] = tt
pats_on acc (p ∷ ps) =
    let xs = new_ref acc p.on in
    Each-append (OnPats (p ∷ ps)) xs (new_in (acc ++ xs) ps)
    (ref_on acc p.on (OnPats (p ∷ ps)) (λ b e. inl e)) (Each-weaker (OnPats ps) (OnPats (p ∷ ps))
    (λ b h. inr h) (new_in (acc ++ xs) ps) (pats_on (acc ++ xs) ps))

channels_on : (acc : List ℕ) (ds : Definitions) → Each (OnDefs ds) (new_channels acc ds)
channels_on acc no_definition = tt
channels_on acc (and_also (Rule ps q) ds) =
    let xs = new_in acc ps in
    let all : ℕ → Type 0 = OnDefs (and_also (Rule ps q) ds) in
    Each-append all xs (new_channels (acc ++ xs) ds)
    (Each-weaker (OnPats ps) all (λ b h. inl h) xs (pats_on acc ps)) (Each-weaker (OnDefs ds) all
    (λ b h. inr h) (new_channels (acc ++ xs) ds) (channels_on (acc ++ xs) ds))
channels_on acc (and_also (Place x es q) ds) = channels_on acc ds

-- ---- each once

-- each is new beside those and the ones before it
abbrev Fresh : List ℕ → List ℕ → Type 0
Fresh acc [] = Unit {0}
Fresh acc (x ∷ xs) = (is_among acc x ≡ false) × Fresh (acc ++ x ∷ []) xs

fresh_append : (acc xs ys : List ℕ) → Fresh acc xs → Fresh (acc ++ xs) ys → Fresh acc (xs ++ ys)
fresh_append acc [] ys h g = subst (λ (zs : List ℕ). Fresh zs ys) (append-nil acc) g
fresh_append acc (x ∷ xs) ys h g = (
  h.0,
  fresh_append (acc ++ x ∷ []) xs ys
      h.1 (subst (λ (zs : List ℕ). Fresh zs ys) (sym (append_one acc x xs)) g),
)

fresh_ref : (acc : List ℕ) (r : Ref) → Fresh acc (new_ref acc r)
fresh_ref acc (Binder b) = go (is_among acc b) refl
  where
    go : (t : Bool) → is_among acc b ≡ t → Fresh acc (cond t [] (b ∷ []))
    go true e = tt
    go false e = (e, tt)
fresh_ref acc (Known n) = tt

fresh_in : (acc : List ℕ) (ps : List Pat) → Fresh acc (new_in acc ps)
fresh_in acc [] = tt
fresh_in acc (p ∷ ps) =
    let xs = new_ref acc p.on in
    fresh_append acc xs (new_in (acc ++ xs) ps) (fresh_ref acc p.on) (fresh_in (acc ++ xs) ps)

fresh_channels : (acc : List ℕ) (ds : Definitions) → Fresh acc (new_channels acc ds)
fresh_channels acc no_definition = tt
fresh_channels acc (and_also (Rule ps q) ds) =
    let xs = new_in acc ps in
    fresh_append acc xs (new_channels (acc ++ xs) ds) (fresh_in acc ps)
    (fresh_channels (acc ++ xs) ds)
fresh_channels acc (and_also (Place x es q) ds) = fresh_channels acc ds

not_before : (acc xs : List ℕ) (c b : ℕ) → Fresh acc xs → slice_get xs c ≡ Some b
    → is_among acc b ≡ false
not_before acc [] c b h e = absurd (cc)
not_before acc (x ∷ xs) zero b h e = let same : x ≡ b = cc in ap (is_among acc) (sym same) ∙ h.0
not_before acc (x ∷ xs) (suc c) b h e = go (is_among acc b)
    (sym (among-append acc (x ∷ []) b) ∙ not_before (acc ++ x ∷ []) xs c b h.1 e)
  where
    go : (t : Bool) → t || is_among (x ∷ []) b ≡ false → t ≡ false
    go true f = absurd (cc)
    go false f = refl

place_at : (acc xs : List ℕ) (k c b : ℕ) → Fresh acc xs → slice_get xs c ≡ Some b
    → position_from k xs b ≡ Some (k + c)
place_at acc [] k c b h e = absurd (cc)
place_at acc (x ∷ xs) k zero b h e =
    let same : x ≡ b = cc in
    let number : k ≡ k + 0 = omega arith in
    ap (λ (t : Bool). cond t (Some k) (position_from (k + 1) xs b)) (eq-eqb x b same)
    ∙ ap (λ (m : ℕ). Some m) number
place_at acc (x ∷ xs) k (suc c) b h e =
    let number : (k + 1) + c ≡ k + suc c = omega arith in
    ap (λ (t : Bool). cond t (Some k) (position_from (k + 1) xs b)) (other (x == b) refl)
    ∙ place_at (acc ++ x ∷ []) xs (k + 1) c b h.1 e ∙ ap (λ (m : ℕ). Some m) number
  where
    other : (t : Bool) → (x == b) ≡ t → t ≡ false
    other false f = refl
    other true f =
        let here : is_among (acc ++ x ∷ []) b ≡ true =
        among_right acc (x ∷ []) b (ap (λ (t : Bool). t || false) f) in
        let gone : is_among (acc ++ x ∷ []) b ≡ false = not_before (acc ++ x ∷ []) xs c b h.1 e in
        absurd (cc)

-- ---- the levels of a program

-- its channels are those that its patterns name, but for those that had a name already
abbrev pub IsMade : LevelTerm → Type 0
IsMade t = (named : List ℕ) × (t.channels ≡ new_channels named t.defs)

mutual
  process_made : (p : Process) (y : List ℕ) → Each IsMade (levels_of y p)
  process_made (Msg x vs) y = tt
  process_made (Par ps) y = all_made ps y
  process_made (Def ds p) y =
      let z = y ++ order ds in (
        ([], refl),
        Each-append IsMade (levels_of_defs z (new_channels [] ds) ds) (levels_of z p)
            (defs_made ds z (new_channels [] ds)) (process_made p z),
      )
  process_made (Go b k) y = tt
  process_made (Fail b k) y = tt
  process_made Halt y = tt

  all_made : (ps : Processes) (y : List ℕ) → Each IsMade (levels_of_all y ps)
  all_made none y = tt
  all_made (one_more p ps) y =
      Each-append IsMade (levels_of y p) (levels_of_all y ps) (process_made p y) (all_made ps y)

  defs_made : (ds : Definitions) (z named : List ℕ) → Each IsMade (levels_of_defs z named ds)
  defs_made no_definition z named = tt
  defs_made (and_also (Rule ps p) ds) z named =
      Each-append IsMade (levels_of (z ++ params_of ps) p) (levels_of_defs z (named ++ []) ds)
      (process_made p (z ++ params_of ps)) (defs_made ds z (named ++ []))
  defs_made (and_also (Place x es p) ds) z named =
      let rest = place_order named x es in
      Each-append IsMade (levels_of_def z named (Place x es p))
      (levels_of_defs z (named ++ rest) ds) (
        (named ++ binder_of x, refl),
        Each-append IsMade (levels_of_defs z (named ++ rest) es) (levels_of z p)
            (defs_made es z (named ++ rest)) (process_made p z),
      )
      (defs_made ds z (named ++ rest))

sites_made : (ts : List SiteTerm) → Each IsMade (levels_of_sites ts)
sites_made [] = tt
sites_made (t ∷ ts) =
    let ds = definitions t.defs in
    Each-append IsMade (levels_of_site t) (levels_of_sites ts) (
      ([], refl),
      Each-append IsMade (levels_of_defs [] (new_channels [] ds) ds) (levels_of [] t.body)
          (defs_made ds [] (new_channels [] ds)) (process_made t.body []),
    )
    (sites_made ts)

pub levels_made : (p : ProgramTerms) → Each IsMade (levels_of_program p)
levels_made p = sites_made p.sites

-- the channel with this number is that of a binder on which a rule has a pattern
pub record IsOnPattern (t : LevelTerm) (c : ℕ) : Type 0 where
  pub binder : ℕ
  pub at : position t.channels binder ≡ Some c
  pub on : OnDefs t.defs binder

pub on_pattern : (t : LevelTerm) → IsMade t → (c : ℕ) → c < length t.channels → IsOnPattern t c
on_pattern t made c within =
    let xs = new_channels made.0 t.defs in
    let here = there xs c (subst (λ (ys : List ℕ). c < length ys) made.1 within) in
    let b = here.0 in
    let number : 0 + c ≡ c = omega arith in
    record {
      binder = b;
      at = ap (λ (ys : List ℕ). position ys b) made.1
          ∙ place_at made.0 xs 0 c b (fresh_channels made.0 t.defs) here.1
          ∙ ap (λ (m : ℕ). Some m) number;
      on = each_get (OnDefs t.defs) xs c b here.1 (channels_on made.0 t.defs);
    }
