-- The places of a site have, among the site-level names, the locations that its naming gives them.
use Rattle.std.proofs.Common.{◌≡◌, ℕ, zero, suc, ◌+◌, Some, None, ◌∙◌, List, [], ◌∷◌, ◌++◌, length}
use Rattle.std.proofs.Common.{true, refl, sym, ap, subst, arith}
use Rattle.chem_model.specs.declared.name.Ref.TheVariants.{Binder}
use Rattle.chem_model.specs.declared.program.SiteTerm.{SiteTerm}
use Rattle.chem_model.specs.ProgramFacts.{ProgramTerms, IsProgram, places}
use Rattle.chem_model.specs.Opening.{site_names}
use Rattle.chem_model.specs.Each.{Each}
use Rattle.chem_laws.proofs.Naming.{naming_is}
use Rattle.chem_laws.proofs.OpeningBlocks.{IsBlockAt, of_block, own_block, other_block}
use Rattle.chem_laws.proofs.OpeningNames.{HasLevel, rest_names, here, later}
use Rattle.std.specs.Prelude.{slice_get}
use Rattle.chem_model.specs.Process.{definitions, Rule, Place, Definitions, no_definition, and_also}
use Rattle.chem_model.specs.Binders.{binder_of, channels_of, block, is_among}
use Rattle.chem_model.specs.Scope.{IsBlock, AreRulesAndPlaces}
use Rattle.chem_model.specs.Fill.{Naming, name_at}
use Rattle.chem_model.specs.Pour.{Drawn, naming}
use Rattle.chem_laws.proofs.Terms.{among_left, among_right}
use Rattle.chem_laws.proofs.Parts.{Agree}
use Rattle.chem_laws.proofs.Naming.{ref_agrees}
use Rattle.chem_laws.proofs.NamingLevels.{top_channels, rules_block, block_fresh}
use Rattle.env_store.specs.Layout.{new_channels, place_in, places_order, order}
use Rattle.env_store.specs.Running.{loc_at, channel_names}
use Rattle.env_store.specs.Reading.{ChannelsAt, PlacesAt}
use Rattle.env_store.specs.Groups.{ChannelsNamed}
use Rattle.env_store.proofs.NamingOrder.{names_of_places, order_names, order_long, order_is}
use Rattle.env_store.proofs.NamingOrder.{channels_long}
use Rattle.env_store.proofs.PlacesNamed.{PlacesNamed, places_named, channels_named}
use Rattle.env_store.proofs.Scoped.{channels_among, order_among, new_is_top, found_among}
use Rattle.env_store.proofs.Scoped.{channels_at, places_at}

named_again : (s : ℕ) (m n : Naming) (ds : Definitions) (acc : List ℕ) (kn : ℕ)
    → AreRulesAndPlaces ds → Agree (block ds) m n → PlacesNamed s n acc kn ds
    → PlacesNamed s m acc kn ds
named_again s m n no_definition acc kn ok h g = tt
named_again s m n (and_also (Rule ps p) ds) acc kn ok h g = (
  tt,
  named_again s m n ds (acc ++ []) (kn + length {A = ℕ} []) ok
      (λ b e. h b (among_right (channels_of ps) (block ds) b e)) g.1,
)
named_again s m n (and_also (Place x es p) ds) acc kn ok h g = (
  (
    ref_agrees m n x (λ b e. h b (among_left (binder_of x ++ block es) (block ds) b
        (among_left (binder_of x) (block es) b e))) ∙ g.0.0,
    λ b j at. h b
        (among_left (binder_of x ++ block es) (block ds) b (among_right (binder_of x) (block es) b
        (ap (λ cs. is_among cs b) (rules_block es ok.0)
        ∙ new_is_top (acc ++ binder_of x) es b
        (found_among 0 (new_channels (acc ++ binder_of x) es) b j at)))) ∙ g.0.1 b j at,
  ),
  named_again s m n ds (acc ++ place_in acc (Place x es p))
      (kn + length (place_in acc (Place x es p)))
      ok.1 (λ b e. h b (among_right (binder_of x ++ block es) (block ds) b e)) g.1,
)

pub site_places : (s : ℕ) (m : Naming) (ds : Definitions) → IsBlock ds → AreRulesAndPlaces ds
    → Agree (block ds) m (naming s (loc_at s 0) ds 1).names
    → PlacesNamed s m (new_channels [] ds) (1 + length (new_channels [] ds)) ds
site_places s m ds is ok agree =
    let l = loc_at s 0 in
    let bs = new_channels [] ds in
    let ns = order_names s l 1 ds in
    let top : (b : ℕ) → is_among bs b ≡ is_among (top_channels ds) b = channels_among [] ds in
    let at : PlacesAt [] (order ds) bs (length bs) ds = places_at [] ds [] (order ds) bs bs
    (top_channels ds) refl top top (block_fresh ds is ok) ok (λ b e. refl) in
    named_again s m (naming s l ds 1).names ds bs (1 + length bs) ok agree
    (subst (λ (d : Drawn). PlacesNamed s d.names bs (1 + length bs) ds) (sym (order_is s l 1 ds))
    (places_named [] s (order ds) ns (order_long s l 1 ds) ds bs (length bs) (1 + length bs)
    (channel_names s l 1 bs) at refl (channels_long s l 1 bs)))

-- and so have its channels
pub site_channels : (s : ℕ) (m : Naming) (ds : Definitions) → AreRulesAndPlaces ds
    → Agree (block ds) m (naming s (loc_at s 0) ds 1).names
    → ChannelsNamed s m (loc_at s 0) 1 (new_channels [] ds)
site_channels s m ds ok agree b j at =
    let l = loc_at s 0 in
    let bs = new_channels [] ds in
    let ns = order_names s l 1 ds in
    let mine : is_among (block ds) b ≡ true =
    sym (order_among ds b ok) ∙ among_left bs (places_order bs ds) b (found_among 0 bs b j at) in
    let slots : ChannelsAt [] (order ds) 0 bs =
    channels_at [] (order ds) [] bs (places_order bs ds) refl (λ c f. (refl, refl)) in
    agree b mine ∙ ap (λ (d : Drawn). name_at d.names b) (order_is s l 1 ds)
    ∙ channels_named [] s (order ds) ns (order_long s l 1 ds) []
    (names_of_places s bs (1 + length bs) ds) l 1 0 bs refl refl slots b j at

-- ---- the sites of a program

abbrev pub SiteLevel : Naming → ℕ → SiteTerm → Type 0
SiteLevel m i t =
    let ds = definitions t.defs in
    let bs = new_channels [] ds in
    PlacesNamed i m bs (1 + length bs) ds × ChannelsNamed i m (loc_at i 0) 1 bs

site_levels : (ts : List SiteTerm) (i : ℕ) (m : Naming) → IsBlockAt None (places ts)
    → Each HasLevel ts → Agree (block (places ts)) m (rest_names i ts)
    → (j : ℕ) (t : SiteTerm) → slice_get ts j ≡ Some t → SiteLevel m (i + j) t
site_levels [] i m h g same j t e = cc
site_levels (t ∷ ts) i m h g same zero u e =
    let ds = definitions t.defs in
    let is : t ≡ u = cc in
    let zero_more : i ≡ i + 0 = omega arith in
    let agree : Agree (block ds) m (naming i (loc_at i 0) ds 1).names =
    (λ b f. same b (among_right (t.name ∷ []) (block ds ++ block (places ts)) b
    (among_left (block ds) (block (places ts)) b f)) ∙ here naming_is i t ts h g.0 b f) in
    subst (λ k. SiteLevel m k u) zero_more (subst (SiteLevel m i) is (
      site_places i m ds (own_block None t.name ds t.body (places ts) h) g.0 agree,
      site_channels i m ds g.0 agree,
    ))
site_levels (t ∷ ts) i m h g same (suc j) u e =
    let ds = definitions t.defs in
    let next : (i + 1) + j ≡ i + suc j = omega arith in
    let agree : Agree (block (places ts)) m (rest_names (i + 1) ts) =
    (λ b f. same b (among_right (t.name ∷ []) (block ds ++ block (places ts)) b
    (among_right (block ds) (block (places ts)) b f)) ∙ later naming_is i t ts h g.0 b f) in
    subst (λ k. SiteLevel m k u) next (site_levels ts (i + 1) m
    (other_block None (Place (Binder t.name) ds t.body) (places ts) h) g.1 agree j u e)

-- among the site-level names each site's places and channels have those that the naming of its
-- level gives
pub program_sites : (p : ProgramTerms) → IsProgram p → (i : ℕ) (t : SiteTerm)
    → slice_get p.sites i ≡ Some t → SiteLevel (site_names p.sites) i t
program_sites p ok i t e =
    let zero_more : 0 + i ≡ i = omega arith in
    subst (λ k. SiteLevel (site_names p.sites) k t) zero_more (site_levels p.sites 0
    (site_names p.sites) (of_block (places p.sites) ok.one_block) ok.levels (λ b f. refl) i t e)
