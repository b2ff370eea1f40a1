-- What is poured gives each new channel to a rule.
use Rattle.std.proofs.Common.{◌≡◌, ℕ, ◌+◌, ◌≤◌, List, [], ◌∷◌, ◌++◌, Option, Some, None, Bool, true}
use Rattle.std.proofs.Common.{false, cond, refl, sym, ap, ◌∙◌, arith, length, ◌==◌, ◌||◌, inl, inr}
use Rattle.std.proofs.Common.{eqb-true, eq-eqb}
use Rattle.std.specs.Prelude.{slice_get, slice_index, is_some}
use Rattle.chem_model.specs.declared.name.Loc.{Loc}
use Rattle.chem_model.specs.declared.name.Name.{Name}
use Rattle.chem_model.specs.declared.name.Name.TheVariants as name
use Rattle.chem_model.specs.declared.name.Ref.{Ref}
use Rattle.chem_model.specs.declared.name.Ref.TheVariants.{Binder, Known}
use Rattle.chem_model.specs.declared.name.Pat.{Pat}
use Rattle.chem_model.specs.declared.numbered.Named.{Named}
use Rattle.chem_model.specs.declared.numbered.NumberedRule.{NumberedRule}
use Rattle.chem_model.specs.declared.numbered.Numbered.{Numbered}
use Rattle.chem_model.specs.declared.numbered.Made.{Made}
use Rattle.chem_model.specs.Process.{Process, Msg, Par, Def, Go, Fail, Halt, Processes, none}
use Rattle.chem_model.specs.Process.{one_more, Rule, Place, Definitions, no_definition, and_also}
use Rattle.chem_model.specs.Binders.{binder_of, channels_of, block, is_among, once, bound_in}
use Rattle.chem_model.specs.Binders.{bound_in_all, bound_in_definitions}
use Rattle.chem_model.specs.Each.{Each, IsIn}
use Rattle.chem_model.specs.Fill.{Naming, name_at, or_binder, fill_ref, fill_refs, fill_pats}
use Rattle.chem_model.specs.Solution.{root}
use Rattle.chem_model.specs.Reduction.{all_known}
use Rattle.chem_model.specs.declared.operation.Became.{Became}
use Rattle.chem_model.specs.Operations.{operated, became_args}
use Rattle.chem_model.specs.Numbered.{standing}
use Rattle.chem_model.specs.Pour.{Drawn, name_channel, name_ref, name_pats, name_channels}
use Rattle.chem_model.specs.Pour.{name_place, name_places, naming, is_count, known, out_made}
use Rattle.chem_model.specs.Pour.{atom_made, said_made, operated_made, message_made, loc_or}
use Rattle.chem_model.specs.Pour.{lay_rules, rules_made, then_made, pour, pour_all, lay_places}
use Rattle.chem_model.specs.Pour.{pour_at}
use Rattle.chem_laws.proofs.Lists.{Each-append, Each-weaker}
use Rattle.chem_laws.proofs.Terms.{or_name, name_at-append, among_left, among_right, among_first}
use Rattle.chem_laws.proofs.OpeningLists.{among_either}
use Rattle.chem_laws.proofs.Parts.{is_named}
use Rattle.sort_laws.specs.Owned.{IsChannelName, IsOn, Owns, OwnAll, IsOwned}
use Rattle.sort_laws.proofs.Terms.{in_left, in_right}

-- ---- more rules

on_left : (xs ys : List NumberedRule) (n : Name) → IsOn xs n → IsOn (xs ++ ys) n
on_left xs ys n h = record {
  rule = h.rule;
  stands = in_left h.rule xs ys h.stands;
  pat = h.pat;
  of_rule = h.of_rule;
  on = h.on;
}

on_right : (xs ys : List NumberedRule) (n : Name) → IsOn ys n → IsOn (xs ++ ys) n
on_right xs ys n h = record {
  rule = h.rule;
  stands = in_right h.rule xs ys h.stands;
  pat = h.pat;
  of_rule = h.of_rule;
  on = h.on;
}

pub own_left : (xs ys : List NumberedRule) (m : Naming) → OwnAll xs m → OwnAll (xs ++ ys) m
own_left xs ys m h =
    Each-weaker (Owns xs) (Owns (xs ++ ys)) (λ x f c. on_left xs ys x.name (f c)) m h

pub own_right : (xs ys : List NumberedRule) (m : Naming) → OwnAll ys m → OwnAll (xs ++ ys) m
own_right xs ys m h =
    Each-weaker (Owns ys) (Owns (xs ++ ys)) (λ x f c. on_right xs ys x.name (f c)) m h

pub own_both : (xs ys : List NumberedRule) (m n : Naming) → OwnAll xs m → OwnAll ys n
    → OwnAll (xs ++ ys) (m ++ n)
own_both xs ys m n h g =
    Each-append (Owns (xs ++ ys)) m n (own_left xs ys m h) (own_right xs ys n g)

-- ---- naming

-- the channels of the rules of a level, and of the levels of its places
abbrev pub rule_channels : Definitions → List ℕ
rule_channels no_definition = []
rule_channels (and_also (Rule ps p) ds) = channels_of ps ++ rule_channels ds
rule_channels (and_also (Place a es p) ds) = rule_channels ds

abbrev pub place_channels : Definitions → List ℕ
place_channels no_definition = []
place_channels (and_also (Rule ps p) ds) = place_channels ds
place_channels (and_also (Place a es p) ds) = rule_channels es ++ place_channels ds

abbrev level_places : Definitions → List ℕ
level_places no_definition = []
level_places (and_also (Rule ps p) ds) = level_places ds
level_places (and_also (Place a es p) ds) = binder_of a ++ level_places ds

abbrev pub level : Definitions → List ℕ
level ds = rule_channels ds ++ place_channels ds

-- an entry is for a binder of the block; of a channel it is the first one, and its binder is on a
-- pattern
pub record Fine (B L : List ℕ) (names : Naming) (x : Named) : Type 0 where
  pub inside : is_among B x.binder ≡ true
  pub found : IsChannelName x.name → name_at names x.binder ≡ Some x.name
  pub on : IsChannelName x.name → is_among L x.binder ≡ true

abbrev pub AllFine : (B L : List ℕ) → Naming → Type 0
AllFine B L names = Each (Fine B L names) names

module _ (B L : List ℕ) where
  fine_more : (names more : Naming) (x : Named) → Fine B L names x → Fine B L (names ++ more) x
  fine_more names more x h = record {
    inside = h.inside;
    found = λ c. name_at-append names more x.binder
        ∙ ap (λ o. or_name o (name_at more x.binder)) (h.found c);
    on = h.on;
  }

  push : (names : Naming) (x : Named) → AllFine B L names → is_among B x.binder ≡ true
      → (IsChannelName x.name → name_at names x.binder ≡ None)
      → (IsChannelName x.name → is_among L x.binder ≡ true) → AllFine B L (names ++ x ∷ [])
  push names x h inside free on =
      Each-append (Fine B L (names ++ x ∷ [])) names (x ∷ []) (Each-weaker (Fine B L names)
      (Fine B L (names ++ x ∷ [])) (fine_more names (x ∷ [])) names h) (
        record {
          inside = inside;
          found = λ c. name_at-append names (x ∷ []) x.binder
              ∙ ap (λ o. or_name o (name_at (x ∷ []) x.binder)) (free c)
              ∙ ap (λ u. cond u (Some x.name) None) (eq-eqb x.binder x.binder refl);
          on = on;
        },
        tt,
      )

  channel_fine : (s : ℕ) (o : Option Name) (l : Loc) (b : ℕ) (a : Drawn) → name_at a.names b ≡ o
      → is_among B b ≡ true → is_among L b ≡ true → AllFine B L a.names
      → AllFine B L (name_channel o s l b a).names
  channel_fine s None l b a free inside on h =
      push a.names (record { binder = b; name = name.Chan s a.next l }) h inside (λ c. free)
      (λ c. on)
  channel_fine s (Some n) l b a free inside on h = h

  ref_fine : (s : ℕ) (l : Loc) (r : Ref) (a : Drawn)
      → ((b : ℕ) → is_among (binder_of r) b ≡ true → (is_among B b ≡ true) × (is_among L b ≡ true))
      → AllFine B L a.names → AllFine B L (name_ref s l r a).names
  ref_fine s l (Binder b) a f h =
      let i = f b (among_first b []) in
      channel_fine s (name_at a.names b) l b a refl i.0 i.1 h
  ref_fine s l (Known n) a f h = h

  pats_fine : (s : ℕ) (l : Loc) (ps : List Pat) (a : Drawn)
      → ((b : ℕ) → is_among (channels_of ps) b ≡ true
      → (is_among B b ≡ true) × (is_among L b ≡ true)) → AllFine B L a.names
      → AllFine B L (name_pats s l ps a).names
  pats_fine s l [] a f h = h
  pats_fine s l (p ∷ ps) a f h = pats_fine s l ps (name_ref s l p.on a)
      (λ b e. f b (among_right (binder_of p.on) (channels_of ps) b e))
      (ref_fine s l p.on a (λ b e. f b (among_left (binder_of p.on) (channels_of ps) b e)) h)

  channels_fine : (s : ℕ) (l : Loc) (ds : Definitions) (a : Drawn)
      → ((b : ℕ) → is_among (rule_channels ds) b ≡ true
      → (is_among B b ≡ true) × (is_among L b ≡ true)) → AllFine B L a.names
      → AllFine B L (name_channels s l ds a).names
  channels_fine s l no_definition a f h = h
  channels_fine s l (and_also (Rule ps p) ds) a f h = channels_fine s l ds (name_pats s l ps a)
      (λ b e. f b (among_right (channels_of ps) (rule_channels ds) b e))
      (pats_fine s l ps a (λ b e. f b (among_left (channels_of ps) (rule_channels ds) b e)) h)
  channels_fine s l (and_also (Place x es p) ds) a f h = channels_fine s l ds a f h

  place_fine : (s : ℕ) (r : Ref) (a : Drawn)
      → ((b : ℕ) → is_among (binder_of r) b ≡ true → is_among B b ≡ true) → AllFine B L a.names
      → AllFine B L (name_place s r a).names
  place_fine s (Binder b) a f h =
      push a.names (record { binder = b; name = name.Place (record { site = s; k = a.next }) }) h
      (f b (among_first b [])) (λ c. absurd c) (λ c. absurd c)
  place_fine s (Known n) a f h = h

  places_fine : (s : ℕ) (ds : Definitions) (a : Drawn)
      → ((b : ℕ) → is_among (level_places ds) b ≡ true → is_among B b ≡ true)
      → ((b : ℕ) → is_among (place_channels ds) b ≡ true
      → (is_among B b ≡ true) × (is_among L b ≡ true)) → AllFine B L a.names
      → AllFine B L (name_places s ds a).names
  places_fine s no_definition a g f h = h
  places_fine s (and_also (Rule ps p) ds) a g f h = places_fine s ds a g f h
  places_fine s (and_also (Place x es p) ds) a g f h =
      let l : Loc = record { site = s; k = a.next } in
      places_fine s ds (name_channels s l es (name_place s x a))
      (λ b e. g b (among_right (binder_of x) (level_places ds) b e))
      (λ b e. f b (among_right (rule_channels es) (place_channels ds) b e))
      (channels_fine s l es (name_place s x a)
      (λ b e. f b (among_left (rule_channels es) (place_channels ds) b e))
      (place_fine s x a (λ b e. g b (among_left (binder_of x) (level_places ds) b e)) h))

  -- a binder outside the block has no name
  none_outside : (names es : Naming) (b : ℕ) → Each (Fine B L names) es → is_among B b ≡ false
      → name_at es b ≡ None
  none_outside names [] b h e = refl
  none_outside names (x ∷ es) b h e = go (x.binder == b) refl (none_outside names es b h.1 e)
    where
      go : (u : Bool) → x.binder == b ≡ u → name_at es b ≡ None
          → cond u (Some x.name) (name_at es b) ≡ None
      go true c ih =
          let there : is_among B b ≡ true =
          ap (is_among B) (sym (eqb-true x.binder b c)) ∙ h.0.inside in
          let clash : true ≡ false = sym there ∙ e in
          cc
      go false c ih = ih

  pub named_most : (m names : Naming) (b : ℕ) → AllFine B L names
      → is_named (m ++ names) b ≤ is_named m b + once B b
  named_most m names b h = go (is_among B b) refl
    where
      both : is_named (m ++ names) b ≡ cond (is_some (or_name (name_at m b) (name_at names b))) 1 0
      both = ap (λ o. cond (is_some o) 1 0) (name_at-append m names b)

      either : (o q : Option Name) → cond (is_some (or_name o q)) 1 0 ≤ cond (is_some o) 1 0 + 1
      either None None = omega arith
      either None (Some y) = omega arith
      either (Some x) q = omega arith

      one : (o : Option Name) → cond (is_some (or_name o None)) 1 0 ≤ cond (is_some o) 1 0
      one None = omega arith
      one (Some x) = omega arith

      go : (u : Bool) → is_among B b ≡ u → is_named (m ++ names) b ≤ is_named m b + once B b
      go true c =
          let in_B : once B b ≡ 1 = ap (λ v. cond v 1 0) c in
          omega (arith, both, either (name_at m b) (name_at names b), in_B)
      go false c =
          let free = none_outside names names b h c in
          let single : is_named (m ++ names) b ≡ cond (is_some (or_name (name_at m b) None)) 1 0 =
          both ∙ ap (λ o. cond (is_some (or_name (name_at m b) o)) 1 0) free in
          omega (arith, single, one (name_at m b))

-- what a level names is of its block
rules_inside : (ds : Definitions) (b : ℕ) → is_among (rule_channels ds) b ≡ true
    → is_among (block ds) b ≡ true
rules_inside no_definition b e = e
rules_inside (and_also (Rule ps p) ds) b e =
    elim (among_either (channels_of ps) (rule_channels ds) b e) [
      | inl u ↦ among_left (channels_of ps) (block ds) b u
      | inr u ↦ among_right (channels_of ps) (block ds) b (rules_inside ds b u)
    ]
rules_inside (and_also (Place a es p) ds) b e =
    among_right (binder_of a ++ block es) (block ds) b (rules_inside ds b e)

places_inside : (ds : Definitions) (b : ℕ) → is_among (place_channels ds) b ≡ true
    → is_among (block ds) b ≡ true
places_inside no_definition b e = e
places_inside (and_also (Rule ps p) ds) b e =
    among_right (channels_of ps) (block ds) b (places_inside ds b e)
places_inside (and_also (Place a es p) ds) b e =
    elim (among_either (rule_channels es) (place_channels ds) b e) [
      | inl u ↦ among_left (binder_of a ++ block es) (block ds) b
          (among_right (binder_of a) (block es) b (rules_inside es b u))
      | inr u ↦ among_right (binder_of a ++ block es) (block ds) b (places_inside ds b u)
    ]

names_inside : (ds : Definitions) (b : ℕ) → is_among (level_places ds) b ≡ true
    → is_among (block ds) b ≡ true
names_inside no_definition b e = e
names_inside (and_also (Rule ps p) ds) b e =
    among_right (channels_of ps) (block ds) b (names_inside ds b e)
names_inside (and_also (Place a es p) ds) b e =
    elim (among_either (binder_of a) (level_places ds) b e) [
      | inl u ↦ among_left (binder_of a ++ block es) (block ds) b
          (among_left (binder_of a) (block es) b u)
      | inr u ↦ among_right (binder_of a ++ block es) (block ds) b (names_inside ds b u)
    ]

pub naming_fine : (s : ℕ) (l : Loc) (ds : Definitions) (k : ℕ)
    → AllFine (block ds) (level ds) (naming s l ds k).names
naming_fine s l ds k =
    places_fine (block ds) (level ds) s ds (name_channels s l ds (record { next = k; names = [] }))
    (names_inside ds)
    (λ b e. (places_inside ds b e, among_right (rule_channels ds) (place_channels ds) b e))
    (channels_fine (block ds) (level ds) s l ds (record { next = k; names = [] })
    (λ b e. (rules_inside ds b e, among_left (rule_channels ds) (place_channels ds) b e)) tt)

-- ---- laying

module _ (s : ℕ) (e : Naming) where
  pattern_on : (ps : List Pat) (b : ℕ) (n : Name) → is_among (channels_of ps) b ≡ true
      → name_at e b ≡ Some n → (q : Pat) × IsIn q (fill_pats e ps) × (q.on ≡ Known n)
  pattern_on [] b n i f = cc
  pattern_on (p ∷ ps) b n i f = elim (among_either (binder_of p.on) (channels_of ps) b i) [
    | inl u ↦ here p.on refl u
    | inr u ↦ (let r = pattern_on ps b n u f in (r.0, inr r.1, r.2))
  ]
    where
      here : (r : Ref) → p.on ≡ r → is_among (binder_of r) b ≡ true
          → (q : Pat) × IsIn q (fill_pats e (p ∷ ps)) × (q.on ≡ Known n)
      here (Binder c) w u = go (c == b) refl u
        where
          go : (v : Bool) → c == b ≡ v → v || false ≡ true
              → (q : Pat) × IsIn q (fill_pats e (p ∷ ps)) × (q.on ≡ Known n)
          go true y z = (
            record { on = fill_ref e p.on; params = p.params },
            inl refl,
            ap (fill_ref e) (w ∙ ap Binder (eqb-true c b y)) ∙ ap (or_binder b) f,
          )
          go false y z = cc
      here (Known x) w u = cc

  laid_on : (l : Loc) (k : ℕ) (ds : Definitions) (b : ℕ) (n : Name)
      → is_among (rule_channels ds) b ≡ true → name_at e b ≡ Some n
      → IsOn (lay_rules s e l k ds).rules n
  laid_on l k no_definition b n i f = cc
  laid_on l k (and_also (Rule ps p) ds) b n i f =
      elim (among_either (channels_of ps) (rule_channels ds) b i) [
        | inl u ↦ (let q = pattern_on ps b n u f in
            record { rule = _; stands = inl refl; pat = q.0; of_rule = q.1; on = q.2 })
        | inr u ↦ (let r = laid_on l (k + 1) ds b n u f in record {
          rule = r.rule;
          stands = inr r.stands;
          pat = r.pat;
          of_rule = r.of_rule;
          on = r.on;
        })
      ]
  laid_on l k (and_also (Place x es p) ds) b n i f = laid_on l k ds b n i f

  module _ (seen : List ℕ) (r : Loc) where
    placed_on : (l : Loc) (k : ℕ) (ds : Definitions) (b : ℕ) (n : Name)
        → is_among (place_channels ds) b ≡ true → name_at e b ≡ Some n
        → IsOn (lay_places seen s r e l k ds).rules n
    placed_on l k no_definition b n i f = cc
    placed_on l k (and_also (Rule ps p) ds) b n i f = placed_on l k ds b n i f
    placed_on l k (and_also (Place x es p) ds) b n i f =
        let q = loc_or l (fill_ref e x) in
        let a = rules_made (lay_rules s e q k es) in
        let z = pour seen s r e q a.next p in
        let w = lay_places seen s r e l z.next ds in
        elim (among_either (rule_channels es) (place_channels ds) b i) [
          | inl u ↦ on_left (a.rules ++ z.rules) w.rules n
              (on_left a.rules z.rules n (laid_on q k es b n u f))
          | inr u ↦ on_right (a.rules ++ z.rules) w.rules n (placed_on l z.next ds b n u f)
        ]

    -- where the environment gives these names, what is laid has them
    pub level_owned : (l : Loc) (k j : ℕ) (ds : Definitions) (names es : Naming)
        → Each (Fine (block ds) (level ds) names) es
        → ((b : ℕ) → is_among (block ds) b ≡ true → name_at e b ≡ name_at names b)
        → OwnAll ((lay_rules s e l k ds).rules ++ (lay_places seen s r e l j ds).rules) es
    level_owned l k j ds names [] h same = tt
    level_owned l k j ds names (x ∷ es) h same = (
      λ c. (
          let at : name_at e x.binder ≡ Some x.name = same x.binder h.0.inside ∙ h.0.found c in
          elim (among_either (rule_channels ds) (place_channels ds) x.binder (h.0.on c)) [
            | inl u ↦ on_left (lay_rules s e l k ds).rules (lay_places seen s r e l j ds).rules
                x.name (laid_on l k ds x.binder x.name u at)
            | inr u ↦ on_right (lay_rules s e l k ds).rules (lay_places seen s r e l j ds).rules
                x.name (placed_on l j ds x.binder x.name u at)
          ]
          ),
      level_owned l k j ds names es h.1 same,
    )

-- ---- pouring

abbrev pub MadeOwns : Made → Type 0
MadeOwns a = OwnAll a.rules a.named

then_owns : (a b : Made) → MadeOwns a → MadeOwns b → MadeOwns (then_made a b)
then_owns a b h g = own_both a.rules b.rules a.named b.named h g

free_name : (m names : Naming) (b : ℕ) → is_named m b ≡ 0 → name_at (m ++ names) b ≡ name_at names b
free_name m names b e = name_at-append m names b ∙ go (name_at m b) e
  where
    go : (o : Option Name) → ◌≡◌ {A = ℕ} (cond (is_some o) 1 0) 0
        → or_name o (name_at names b) ≡ name_at names b
    go None f = refl
    go (Some x) f = absurd (omega (arith, f))

module _ (seen : List ℕ) (s : ℕ) (r : Loc) where
  said_owns : (l : Loc) (k : ℕ) (x : Ref) (vs : List Ref) → MadeOwns (said_made seen s l k x vs)
  said_owns l k (Binder b) vs = tt
  said_owns l k (Known (name.Seen i)) vs = go (is_count (slice_get seen i) (length vs))
    where
      go : (b : Bool)
          → MadeOwns
          (cond b (out_made k i (known vs)) (atom_made s l k (Msg (Known (name.Seen i)) vs)))
      go true = tt
      go false = tt
  said_owns l k (Known (name.Place a)) vs = tt
  said_owns l k (Known (name.Chan j i g)) vs = tt
  said_owns l k (Known (name.Num n)) vs = tt
  said_owns l k (Known (name.Op i)) vs = tt

  message_owns : (l : Loc) (k : ℕ) (x : Ref) (vs : List Ref)
      → MadeOwns (message_made seen s l k x vs)
  message_owns l k (Binder b) vs = said_owns l k (Binder b) vs
  message_owns l k (Known (name.Seen i)) vs = said_owns l k (Known (name.Seen i)) vs
  message_owns l k (Known (name.Place a)) vs = said_owns l k (Known (name.Place a)) vs
  message_owns l k (Known (name.Chan j i g)) vs = said_owns l k (Known (name.Chan j i g)) vs
  message_owns l k (Known (name.Num n)) vs = said_owns l k (Known (name.Num n)) vs
  message_owns l k (Known (name.Op i)) vs = go (operated i (known vs))
    where
      go : (o : Option Became) → MadeOwns (operated_made seen s l k i vs o)
      go None = said_owns l k (Known (name.Op i)) vs
      go (Some b) = said_owns l k (Known b.on) (all_known (became_args b))

  mutual
    pub pour_owns : (p : Process) (m : Naming) (l : Loc) (k : ℕ)
        → ((b : ℕ) → is_named m b + bound_in p b ≤ 1) → MadeOwns (pour seen s r m l k p)
    pour_owns (Msg x vs) m l k o = message_owns l k (fill_ref m x) (fill_refs m vs)
    pour_owns (Par ps) m l k o = pour_all_owns ps m l k o
    pour_owns (Def ds p) m l k o =
        let n = naming s l ds k in
        let e = m ++ n.names in
        let a = rules_made (lay_rules s e l n.next ds) in
        let q = lay_places seen s r e l a.next ds in
        let b = then_made a q in
        let z = pour seen s r e l b.next p in
        let fine = naming_fine s l ds k in
        let most : (i : ℕ) → is_named e i ≤ is_named m i + once (block ds) i =
        λ i. named_most (block ds) (level ds) m n.names i fine in
        let same : (i : ℕ) → is_among (block ds) i ≡ true → name_at e i ≡ name_at n.names i =
        λ i u. (let one : once (block ds) i ≡ 1 = ap (λ v. cond v 1 0) u in let all = o i in
        free_name m n.names i (omega arith)) in
        let names : OwnAll (a.rules ++ q.rules) n.names =
        level_owned s e seen r l n.next a.next ds n.names n.names fine same in
        let places : MadeOwns q =
        places_own ds e l a.next (λ i. let all = o i in let up = most i in omega arith) in
        let body : MadeOwns z =
        pour_owns p e l b.next (λ i. let all = o i in let up = most i in omega arith) in
        Each-append (Owns ((a.rules ++ q.rules) ++ z.rules)) n.names (q.named ++ z.named)
        (own_left (a.rules ++ q.rules) z.rules n.names names)
        (own_both (a.rules ++ q.rules)
        z.rules q.named z.named (own_right a.rules q.rules q.named places) body)
    pour_owns (Go x y) m l k o = tt
    pour_owns (Fail x y) m l k o = tt
    pour_owns Halt m l k o = tt

    pub pour_all_owns : (ps : Processes) (m : Naming) (l : Loc) (k : ℕ)
        → ((b : ℕ) → is_named m b + bound_in_all ps b ≤ 1) → MadeOwns (pour_all seen s r m l k ps)
    pour_all_owns none m l k o = tt
    pour_all_owns (one_more p ps) m l k o =
        let a = pour seen s r m l k p in
        then_owns a (pour_all seen s r m l a.next ps)
        (pour_owns p m l k (λ i. let all = o i in omega arith))
        (pour_all_owns ps m l a.next (λ i. let all = o i in omega arith))

    pub places_own : (ds : Definitions) (m : Naming) (l : Loc) (k : ℕ)
        → ((b : ℕ) → is_named m b + bound_in_definitions ds b ≤ 1)
        → MadeOwns (lay_places seen s r m l k ds)
    places_own no_definition m l k o = tt
    places_own (and_also (Rule ps p) ds) m l k o =
        places_own ds m l k (λ i. let all = o i in omega arith)
    places_own (and_also (Place x es p) ds) m l k o =
        let q = loc_or l (fill_ref m x) in
        let a = rules_made (lay_rules s m q k es) in
        let z = pour seen s r m q a.next p in
        then_owns (then_made a z) (lay_places seen s r m l z.next ds)
        (own_right a.rules z.rules z.named
        (pour_owns p m q a.next (λ i. let all = o i in omega arith)))
        (places_own ds m l z.next (λ i. let all = o i in omega arith))

-- ---- a solution

pub poured_owned : (n : Numbered) (m : Naming) (l : Loc) (p : Process)
    → ((b : ℕ) → is_named m b + bound_in p b ≤ 1) → IsOwned n → IsOwned (pour_at n m l p)
poured_owned n m l p o h =
    let r = root (standing n.places) l in
    let a = pour n.seen r.site r m l (slice_index n.counts r.site) p in
    own_both n.rules a.rules n.named a.named h
    (pour_owns n.seen r.site r p m l (slice_index n.counts r.site) o)
