-- Each group that a run lays is one of its level, and no two share a rule or a channel.
use Rattle.std.proofs.Common.{◌≡◌, ℕ, ◌+◌, ◌≤◌, List, [], ◌∷◌, ◌++◌, length, Some, None, refl, sym}
use Rattle.std.proofs.Common.{ap, ◌∙◌, subst, arith, append_assoc, length-append}
use Rattle.std.specs.Prelude.{slice_get}
use Rattle.chem_model.specs.declared.name.Loc.{Loc}
use Rattle.chem_model.specs.declared.name.Name.{Name}
use Rattle.chem_model.specs.declared.name.Ref.TheVariants.{Binder, Known}
use Rattle.chem_model.specs.Process.{Process, Msg, Par, Def, Go, Fail, Halt, Processes, none}
use Rattle.chem_model.specs.Process.{one_more, Definition, Rule, Place, Definitions, no_definition}
use Rattle.chem_model.specs.Process.{and_also}
use Rattle.chem_model.specs.Process as term
use Rattle.chem_model.specs.Fill.{Naming}
use Rattle.chem_model.specs.Reduction.{given}
use Rattle.chem_model.specs.Pour.{message_made, atom_made}
use Rattle.chem_laws.proofs.Lists.{append_nil}
use Rattle.env_store.specs.declared.code.Instr.{Instr}
use Rattle.env_store.specs.declared.code.Instr.TheVariants as instr
use Rattle.env_store.specs.declared.code.SiteCode.{SiteCode}
use Rattle.env_store.specs.Layout.{new_channels, place_in, places_order, order, LevelTerm}
use Rattle.env_store.specs.Layout.{level_term}
use Rattle.env_store.specs.CodeParts.{CodeParts}
use Rattle.env_store.specs.Running.{ref_at, refs_at, Ran, then_ran, atom_ran, births_ran}
use Rattle.env_store.specs.Running.{NumberedLevel, numbered_levels, loc_at, channel_names}
use Rattle.env_store.specs.Running.{place_births, block_names, after_place, group_ran, Making}
use Rattle.env_store.specs.Running.{body_ran, places_ran, site_levels_ran, site_block_ran, site_ran}
use Rattle.env_store.specs.Running.{Entered, run}
use Rattle.env_store.specs.Reading.{ReadsPlaces, Reads, ReadsAll, ReadsBody, ReadsLevel, ReadsSite}
use Rattle.env_store.specs.Groups.{ChannelsNamed}
use Rattle.env_store.proofs.NamingOrder.{names_of_places, order_names, order_long, channels_long}
use Rattle.env_store.proofs.PlacesNamed.{PlacesNamed, places_named, channels_named}
use Rattle.env_store.proofs.Pouring.{numbered_step, left_is, entered, enters_is, block_names_long}
use Rattle.env_store.proofs.Pouring.{level_counts}
use Rattle.env_store.proofs.GroupsApart.{Lays, LaysFrom, joined_lays, beside, runs_on, block_lays}
use Rattle.env_store.proofs.GroupsApart.{nothing_lays, atom_lays, group_lays, message_up}

module _ (c : CodeParts) (levels : List LevelTerm) (tops : Naming) (M : Making) (s : ℕ) (r : Loc)
    (flat : (n : ℕ) (t : LevelTerm) → slice_get levels n ≡ Some t → ReadsLevel c levels tops n t)
    (runs : (j : ℕ) (is : List Instr) → slice_get c.bodies j ≡ Some is
    → (env : List Name) (l : Loc) (k : ℕ) → M j env l k ≡ run c M s is env l k) where
  abbrev Laid : ℕ → Ran → Type 0
  Laid k a = LaysFrom levels tops s k a

  mutual
    pub groups_are : (p : Process) (y : List ℕ) (env : List Name) (is rest : List Instr) (l : Loc)
        → length env ≡ length y → Reads c levels tops y p is rest
        → ((k : ℕ) → Laid k (run c M s rest env l k)) → (k : ℕ) → Laid k (run c M s is env l k)
    groups_are (Msg x vs) y env is rest l e h f k =
        let m = message_made c.seen s l k (ref_at env h.on) (refs_at env h.args) in
        subst (λ js. Laid k (run c M s js env l k)) (sym h.sends)
        (runs_on levels tops s k (atom_ran m) (run c M s rest env l m.next) (atom_lays levels tops s
        k m (message_up c.seen s l k (ref_at env h.on) (refs_at env h.args))) (f m.next))
    groups_are (Par ps) y env is rest l e h f k = all_groups ps y env is rest l e h f k
    groups_are (Def ds p) y env is rest l e h f k =
        let d = h.1 in
        let z = y ++ order ds in
        let ns = order_names s l k ds in
        let env' = env ++ ns in
        let o = d.reads in
        let t = level_term z [] ds None in
        let own = flat o.own t o.own_is in
        let bs = new_channels [] ds in
        let kn = k + length bs in
        let n = k + length ns in
        let first : NumberedLevel = record { number = o.own; level = own.level } in
        let vs = numbered_levels c.levels o.places in
        let many : length ns ≡ length bs + length (places_order bs ds) =
        order_long s l k ds ∙ length-append bs (places_order bs ds) in
        let long : length env' ≡ length z =
        omega (arith, e, order_long s l k ds, length-append env ns, length-append y (order ds)) in
        let names : env' ≡ (env ++ channel_names s l k bs) ++ names_of_places s bs kn ds =
        sym (append_assoc env (channel_names s l k bs) (names_of_places s bs kn ds)) in
        let pre : length (env ++ channel_names s l k bs) ≡ length y + length bs =
        omega (arith, e, length-append env (channel_names s l k bs), channels_long s l k bs) in
        let channels = channels_named tops s z env' long env (names_of_places s bs kn ds) l k
        (length y) bs refl e d.channels in
        let named = places_named tops s z env' long ds bs (length y + length bs) kn
        (env ++ channel_names s l k bs) d.places names pre in
        let group = group_lays levels tops s o.own t own.level l env' k kn k n o.own_is long
        channels own.guards (omega arith) (omega arith) in
        let places = place_groups ds z env' bs o.places kn n (n + own.level.guards)
        (omega (arith, many)) (omega arith) long o.places_are named in
        let q = entered c levels tops M s r flat runs env l k kn first vs ns in
        let a = group_ran s l env' k n first in
        let b = places_ran M s env' kn (n + own.level.guards) vs in
        let block = block_lays levels tops s k n (place_births s kn vs) (then_ran a b) (omega arith)
        (joined_lays levels tops s k kn n n a b (omega arith) (omega (arith, many)) (omega arith)
        group places) in
        let inner = groups_are p z env' h.0 (instr.Leave (length (order ds)) ∷ rest) l long
        h.2 (λ j. subst (λ ms. Laid j (run c M s rest ms l j)) (sym
        (left_is c levels tops M s r flat runs env ns (length (order ds)) (order_long s l k ds)))
        (f j)) in
        subst (λ js. Laid k (run c M s js env l k)) (sym d.enters)
        (subst
        (λ (u : Entered). Laid k (then_ran u.ran (run c M s h.0 (env ++ u.names) l u.ran.next)))
        (sym (enters_is c levels tops M s r flat runs y env l k ds d.block o d.number d.is_there))
        (runs_on levels tops s k q.ran (run c M s h.0 env' l q.ran.next) block (inner q.ran.next)))
    groups_are (Go b j) y env is rest l e h f k =
        let m = atom_made s l k (term.Go (ref_at env h.target) (ref_at env h.cont)) in
        subst (λ js. Laid k (run c M s js env l k)) (sym h.asks)
        (runs_on levels tops s k (atom_ran m) (run c M s rest env l m.next)
        (atom_lays levels tops s k m (omega arith)) (f m.next))
    groups_are (Fail b j) y env is rest l e h f k =
        let m = atom_made s l k (term.Fail (ref_at env h.target) (ref_at env h.cont)) in
        subst (λ js. Laid k (run c M s js env l k)) (sym h.asks)
        (runs_on levels tops s k (atom_ran m) (run c M s rest env l m.next)
        (atom_lays levels tops s k m (omega arith)) (f m.next))
    groups_are Halt y env is rest l e h f k =
        let m = atom_made s l k term.Halt in
        subst (λ js. Laid k (run c M s js env l k)) (sym h) (runs_on levels tops s k (atom_ran m)
        (run c M s rest env l m.next) (atom_lays levels tops s k m (omega arith)) (f m.next))

    pub all_groups :
        (ps : Processes) (y : List ℕ) (env : List Name) (is rest : List Instr) (l : Loc)
        → length env ≡ length y → ReadsAll c levels tops y ps is rest
        → ((k : ℕ) → Laid k (run c M s rest env l k)) → (k : ℕ) → Laid k (run c M s is env l k)
    all_groups none y env is rest l e h f k =
        subst (λ js. Laid k (run c M s js env l k)) (sym h) (f k)
    all_groups (one_more p ps) y env is rest l e h f k =
        groups_are p y env is h.0 l e h.1 (all_groups ps y env h.0 rest l e h.2 f) k

    -- the places of a block, which were named from the number kn on below m
    pub place_groups :
        (ds : Definitions) (z : List ℕ) (env : List Name) (acc ns : List ℕ) (kn m k : ℕ)
        → kn + length (places_order acc ds) ≤ m → m ≤ k → length env ≡ length z
        → ReadsPlaces c levels tops z acc ds ns → PlacesNamed s (tops ++ given z env) acc kn ds
        → Lays levels tops s kn m k (places_ran M s env kn k (numbered_levels c.levels ns))
    place_groups no_definition z env acc ns kn m k end above long h g = subst
        (λ xs. Lays levels tops s kn m k (places_ran M s env kn k (numbered_levels c.levels xs)))
        (sym h) (nothing_lays levels tops s kn m k)
    place_groups (and_also (Rule ps p) ds) z env acc ns kn m k end above long h g =
        let zero : kn + length {A = ℕ} [] ≡ kn = omega arith in
        subst
        (λ xs. Lays levels tops s kn m k (places_ran M s env kn k (numbered_levels c.levels xs)))
        (sym h.1)
        (subst
        (λ j. Lays levels tops s j m k (places_ran M s env j k (numbered_levels c.levels h.0))) zero
        (place_groups ds z env (acc ++ []) h.0 (kn + length {A = ℕ} []) m k (omega arith) above long
        h.2 g.1))
    place_groups (and_also (Place (Known x) es p) ds) z env acc ns kn m k end above long h g =
        absurd h.1.3
    place_groups (and_also (Place (Binder b) es p) ds) z env acc ns kn m k end above long h g =
        let d = Place (Binder b) es p in
        let xs = place_in acc d in
        let t = level_term z (acc ++ b ∷ []) es (Some p) in
        let bs = new_channels (acc ++ b ∷ []) es in
        let f = flat h.1.0 t h.1.2 in
        let v : NumberedLevel = record { number = h.1.0; level = f.level } in
        let vs = numbered_levels c.levels h.0 in
        let many : length f.level.counts ≡ length bs =
        ap length f.counts ∙ level_counts (acc ++ b ∷ []) es in
        let j = kn + length xs in
        let next : after_place kn f.level ≡ j = omega (arith, many) in
        let whole : length (xs ++ places_order (acc ++ xs) ds)
        ≡ length xs + length (places_order (acc ++ xs) ds) =
        length-append xs (places_order (acc ++ xs) ds) in
        let q = loc_at s kn in
        let a = group_ran s q env (kn + 1) k v in
        let made = body_ran M f.level.body env q a.next in
        let one = then_ran a made in
        let body : Laid a.next made =
        subst (λ o. Laid a.next (body_ran M o env q a.next)) (sym f.process.1)
        (subst (Laid a.next)
        (sym (runs f.process.0 f.process.2.instrs f.process.2.is_there env q a.next))
        (groups_are p z env f.process.2.instrs [] q long
        f.process.2.reads (λ i. nothing_lays levels tops s i i i) a.next)) in
        let group = group_lays levels tops s h.1.0 t f.level q env kn j (kn + 1) k h.1.2 long
        g.0.1 f.guards (omega arith) (omega arith) in
        let first = joined_lays levels tops s kn j j k a made (omega arith) (omega arith)
        (omega (arith, whole)) group (beside levels tops s j j a.next made body) in
        let up = first.up in
        let rest = place_groups ds z env (acc ++ xs) h.0 j m one.next (omega (arith, whole))
        (omega arith) long h.2 g.1 in
        subst (λ us. Lays levels tops s kn m k (places_ran M s env kn k us))
        (sym (numbered_step c levels tops M s r flat runs ns h.0 h.1.0 f.level h.1.1 f.is_there))
        (subst (λ i. Lays levels tops s kn m k (then_ran one (places_ran M s env i one.next vs)))
        (sym next)
        (joined_lays levels tops s kn j m k one (places_ran M s env j one.next vs) (omega arith)
        (omega (arith, whole)) above first rest))

  -- a body as a whole
  pub body_groups : (j : ℕ) (y : List ℕ) (p : Process) (env : List Name) (l : Loc) (k : ℕ)
      → ReadsBody c levels tops y p j → length env ≡ length y → Laid k (M j env l k)
  body_groups j y p env l k h e = subst (Laid k) (sym (runs j h.instrs h.is_there env l k))
      (groups_are p y env h.instrs [] l e h.reads (λ i. nothing_lays levels tops s i i i) k)

  -- the opening of a site, whose names are the site-level ones
  pub site_groups : (ds : Definitions) (p : Process) (site : SiteCode)
      → ReadsSite c levels tops ds p site
      → PlacesNamed s tops (new_channels [] ds) (1 + length (new_channels [] ds)) ds
      → ChannelsNamed s tops (loc_at s 0) 1 (new_channels [] ds) → Laid 1 (site_ran c M s site)
  site_groups ds p site h g w =
      let l = loc_at s 0 in
      let o = h.reads in
      let t = level_term [] [] ds None in
      let f = flat o.own t o.own_is in
      let bs = new_channels [] ds in
      let ns = order_names s l 1 ds in
      let many : length f.level.counts ≡ length bs = ap length f.counts ∙ level_counts [] ds in
      let first : NumberedLevel = record { number = o.own; level = f.level } in
      let vs = numbered_levels c.levels o.places in
      let kn : 1 + length bs ≡ 1 + length f.level.counts = omega (arith, many) in
      let nil : tops ≡ tops ++ given [] [] = sym (append_nil tops) in
      let named = subst (λ e. PlacesNamed s e bs (1 + length bs) ds) nil g in
      let channels = subst (λ e. ChannelsNamed s e l 1 bs) nil w in
      let n = 1 + length (order ds) in
      let whole : length (order ds) ≡ length bs + length (places_order bs ds) =
      length-append bs (places_order bs ds) in
      let a = group_ran s l [] 1 n first in
      let b = places_ran M s [] (1 + length bs) (n + f.level.guards) vs in
      let group = group_lays levels tops s o.own t f.level l [] 1 (1 + length bs) 1 n o.own_is refl
      channels f.guards (omega arith) (omega arith) in
      let places = place_groups ds [] [] bs o.places (1 + length bs) n (n + f.level.guards)
      (omega (arith, whole)) (omega arith) refl o.places_are named in
      let block = λ (j k : ℕ). then_ran (births_ran k (place_births s j vs))
      (then_ran (group_ran s l [] 1 k first) (places_ran M s [] j (k + f.level.guards) vs)) in
      let opened = λ (j k : ℕ). then_ran (block j k) (M site.body [] l (block j k).next) in
      let laid = block_lays levels tops s 1 n (place_births s (1 + length bs) vs) (then_ran a b)
      (omega arith) (joined_lays levels tops s 1 (1 + length bs) n n a b (omega arith)
      (omega (arith, whole)) (omega arith) group places) in
      let all : Laid 1 (opened (1 + length bs) n) = runs_on levels tops s 1
      (block (1 + length bs) n) (M site.body [] l (block (1 + length bs) n).next) laid
      (body_groups site.body [] p [] l (block (1 + length bs) n).next h.body refl) in
      let names = block_names_long c levels tops M s r flat runs [] l 1 ds h.block o in
      let last : n ≡ 1 + length (block_names s l 1 first vs) = omega (arith, names) in
      subst (λ q. Laid 1 (site_block_ran c M s site.body q)) (sym h.is_there)
      (subst (λ us. Laid 1 (site_levels_ran M s site.body us)) (sym (numbered_step c levels tops M s
      r flat runs h.block.levels o.places o.own f.level o.levels_are f.is_there))
      (subst (λ k. Laid 1 (opened (1 + length f.level.counts) k)) last
      (subst (λ j. Laid 1 (opened j n)) kn all)))
