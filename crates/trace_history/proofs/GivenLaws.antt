-- The names that a run gives are locations and channels, whatever the program.
use Rattle.std.proofs.Common.{◌≡◌, ℕ, ◌+◌, List, [], ◌∷◌, ◌++◌, Option, Some, None, Bool, true}
use Rattle.std.proofs.Common.{false, cond, refl, subst, length}
use Rattle.std.specs.Prelude.{slice_get, slice_index}
use Rattle.chem_model.specs.declared.event.AtomId.{AtomId}
use Rattle.chem_model.specs.declared.event.Event.{Event}
use Rattle.chem_model.specs.declared.event.Event.TheVariants as event
use Rattle.chem_model.specs.declared.name.Loc.{Loc}
use Rattle.chem_model.specs.declared.name.Name.{Name}
use Rattle.chem_model.specs.declared.name.Name.TheVariants as name
use Rattle.chem_model.specs.declared.name.Ref.{Ref}
use Rattle.chem_model.specs.declared.name.Ref.TheVariants.{Binder, Known}
use Rattle.chem_model.specs.declared.numbered.Named.{Named}
use Rattle.chem_model.specs.declared.numbered.NumberedAtom.{NumberedAtom}
use Rattle.chem_model.specs.declared.numbered.NumberedRule.{NumberedRule}
use Rattle.chem_model.specs.declared.numbered.Numbered.{Numbered}
use Rattle.chem_model.specs.declared.operation.Became.{Became}
use Rattle.chem_model.specs.declared.program.SiteTerm.{SiteTerm}
use Rattle.chem_model.specs.Process.{Process, Msg, Par, Def, Go, Fail, Halt, Processes, none}
use Rattle.chem_model.specs.Process.{one_more, Definition, Rule, Place, Definitions, no_definition}
use Rattle.chem_model.specs.Process.{and_also, definitions}
use Rattle.chem_model.specs.ProgramFacts.{ProgramTerms}
use Rattle.chem_model.specs.Each.{Each}
use Rattle.chem_model.specs.Fill.{Naming, fill_ref, fill_refs}
use Rattle.chem_model.specs.Solution.{root, live}
use Rattle.chem_model.specs.Operations.{operated, became_args}
use Rattle.chem_model.specs.Reduction.{all_known, continuation}
use Rattle.chem_model.specs.Numbered.{standing, same_name, binder_in}
use Rattle.chem_model.specs.Pour.{Drawn, naming, name_channels, is_count, known, out_made}
use Rattle.chem_model.specs.Pour.{atom_made, said_made, operated_made, message_made, loc_or}
use Rattle.chem_model.specs.Pour.{lay_rules, rules_made, pour, pour_all, lay_places, lay_place}
use Rattle.chem_model.specs.Pour.{pour_at, lay_at}
use Rattle.chem_model.specs.Opening.{counts_of, root_of, root_names, level_names, site_names}
use Rattle.chem_model.specs.Opening.{named_sites, open_sites, opening}
use Rattle.chem_model.specs.Apply.{rule_at, atom_at, received_all, without, without_all}
use Rattle.chem_model.specs.Apply.{react_received, react_rule, can_go, falls, can_detect}
use Rattle.chem_model.specs.Apply.{at_location, with_marks, moved, move_to, move_atom, halt_atom}
use Rattle.chem_model.specs.Apply.{detect_of, detect_atom, with_atom, apply, apply_if, replay_from}
use Rattle.chem_laws.proofs.Lists.{Each-append}
use Rattle.chem_laws.proofs.Taking.{same_name_is}
use Rattle.chem_laws.proofs.Naming.{push, channels_keep, places_keep}
use Rattle.trace_history.specs.Given.{can_be_made, OnlyMadeNamesHaveBinders}

abbrev IsMade : Named → Type 0
IsMade e = can_be_made e.name ≡ true

-- ---- naming a level

abbrev Drew : Drawn → Type 0
Drew a = Each IsMade a.names

pushed : (b : ℕ) (x : Name) (a : Drawn) → can_be_made x ≡ true → Drew a → Drew (push b x a)
pushed b x a e h = Each-append IsMade a.names (record { binder = b; name = x } ∷ []) h (e, tt)

channel_drawn : (s : ℕ) (l : Loc) (b : ℕ) (a : Drawn) → Drew a
    → Drew (push b (name.Chan s a.next l) a)
channel_drawn s l b a h = pushed b (name.Chan s a.next l) a refl h

place_drawn : (s b : ℕ) (a : Drawn) → Drew a
    → Drew (push b (name.Place (record { site = s; k = a.next })) a)
place_drawn s b a h = pushed b (name.Place (record { site = s; k = a.next })) a refl h

level_named : (s : ℕ) (l : Loc) (ds : Definitions) (k : ℕ) → Each IsMade (naming s l ds k).names
level_named s l ds k =
    let start : Drawn = record { next = k; names = [] } in
    places_keep s Drew (channel_drawn s) (place_drawn s) ds (name_channels s l ds start)
    (channels_keep s Drew l (channel_drawn s l) ds start tt)

-- ---- pouring

module _ (seen : List ℕ) (s : ℕ) (r : Loc) where
  said_gives : (l : Loc) (k : ℕ) (x : Ref) (vs : List Ref)
      → Each IsMade (said_made seen s l k x vs).named
  said_gives l k (Binder b) vs = tt
  said_gives l k (Known (name.Seen i)) vs = go (is_count (slice_get seen i) (length vs))
    where
      go : (t : Bool)
          → Each IsMade
          (cond t (out_made k i (known vs)) (atom_made s l k (Msg (Known (name.Seen i)) vs))).named
      go true = tt
      go false = tt
  said_gives l k (Known (name.Place a)) vs = tt
  said_gives l k (Known (name.Chan t j h)) vs = tt
  said_gives l k (Known (name.Num n)) vs = tt
  said_gives l k (Known (name.Op i)) vs = tt

  operated_gives : (l : Loc) (k i : ℕ) (vs : List Ref) (o : Option Became)
      → Each IsMade (operated_made seen s l k i vs o).named
  operated_gives l k i vs None = said_gives l k (Known (name.Op i)) vs
  operated_gives l k i vs (Some b) = said_gives l k (Known b.on) (all_known (became_args b))

  message_gives : (l : Loc) (k : ℕ) (x : Ref) (vs : List Ref)
      → Each IsMade (message_made seen s l k x vs).named
  message_gives l k (Binder b) vs = said_gives l k (Binder b) vs
  message_gives l k (Known (name.Seen i)) vs = said_gives l k (Known (name.Seen i)) vs
  message_gives l k (Known (name.Place a)) vs = said_gives l k (Known (name.Place a)) vs
  message_gives l k (Known (name.Chan t j h)) vs = said_gives l k (Known (name.Chan t j h)) vs
  message_gives l k (Known (name.Num n)) vs = said_gives l k (Known (name.Num n)) vs
  message_gives l k (Known (name.Op i)) vs = operated_gives l k i vs (operated i (known vs))

  mutual
    pour_gives : (p : Process) (m : Naming) (l : Loc) (k : ℕ)
        → Each IsMade (pour seen s r m l k p).named
    pour_gives (Msg x vs) m l k = message_gives l k (fill_ref m x) (fill_refs m vs)
    pour_gives (Par ps) m l k = pour_all_gives ps m l k
    pour_gives (Def ds p) m l k =
        let n = naming s l ds k in
        let e = m ++ n.names in
        let a = rules_made (lay_rules s e l n.next ds) in
        let q = lay_places seen s r e l a.next ds in
        let z = pour seen s r e l q.next p in
        Each-append IsMade n.names (q.named ++ z.named) (level_named s l ds k)
        (Each-append IsMade q.named z.named (lay_places_gives ds e l a.next)
        (pour_gives p e l q.next))
    pour_gives (Go b c) m l k = tt
    pour_gives (Fail a c) m l k = tt
    pour_gives Halt m l k = tt

    pour_all_gives : (ps : Processes) (m : Naming) (l : Loc) (k : ℕ)
        → Each IsMade (pour_all seen s r m l k ps).named
    pour_all_gives none m l k = tt
    pour_all_gives (one_more p ps) m l k =
        let a = pour seen s r m l k p in
        Each-append IsMade a.named (pour_all seen s r m l a.next ps).named (pour_gives p m l k)
        (pour_all_gives ps m l a.next)

    lay_places_gives : (ds : Definitions) (m : Naming) (l : Loc) (k : ℕ)
        → Each IsMade (lay_places seen s r m l k ds).named
    lay_places_gives no_definition m l k = tt
    lay_places_gives (and_also d ds) m l k =
        let a = lay_place seen s r m l k d in
        Each-append IsMade a.named (lay_places seen s r m l a.next ds).named
        (lay_place_gives d m l k) (lay_places_gives ds m l a.next)

    lay_place_gives : (d : Definition) (m : Naming) (l : Loc) (k : ℕ)
        → Each IsMade (lay_place seen s r m l k d).named
    lay_place_gives (Rule ps p) m l k = tt
    lay_place_gives (Place x es p) m l k =
        let q = loc_or l (fill_ref m x) in
        pour_gives p m q (rules_made (lay_rules s m q k es)).next

-- ---- what is made, added to a solution

abbrev Gave : Numbered → Type 0
Gave n = Each IsMade n.named

poured_at : (n : Numbered) (m : Naming) (l : Loc) (p : Process) → Gave n → Gave (pour_at n m l p)
poured_at n m l p h =
    let r = root (standing n.places) l in
    let k = slice_index n.counts r.site in
    Each-append IsMade n.named (pour n.seen r.site r m l k p).named h
    (pour_gives n.seen r.site r p m l k)

laid_at : (n : Numbered) (m : Naming) (l : Loc) (ds : Definitions) → Gave n → Gave (lay_at n m l ds)
laid_at n m l ds h =
    let r = root (standing n.places) l in
    let a = rules_made (lay_rules r.site m l (slice_index n.counts r.site) ds) in
    Each-append IsMade n.named (lay_places n.seen r.site r m l a.next ds).named h
    (lay_places_gives n.seen r.site r ds m l a.next)

-- ---- the opening

roots_named : (i : ℕ) (ts : List SiteTerm) → Each IsMade (root_names i ts)
roots_named i [] = tt
roots_named i (t ∷ ts) = (refl, roots_named (i + 1) ts)

levels_named : (i : ℕ) (ts : List SiteTerm) → Each IsMade (level_names i ts)
levels_named i [] = tt
levels_named i (t ∷ ts) =
    Each-append IsMade (naming i (root_of i) (definitions t.defs) 1).names (level_names (i + 1) ts)
    (level_named i (root_of i) (definitions t.defs) 1) (levels_named (i + 1) ts)

sites_opened : (m : Naming) (i : ℕ) (ts : List SiteTerm) (n : Numbered) → Gave n
    → Gave (open_sites m i ts n)
sites_opened m i [] n h = h
sites_opened m i (t ∷ ts) n h =
    let laid = lay_at n m (root_of i) (definitions t.defs) in
    sites_opened m (i + 1) ts (pour_at laid m (root_of i) t.body)
    (poured_at laid m (root_of i) t.body (laid_at n m (root_of i) (definitions t.defs) h))

opened : (p : ProgramTerms) → Gave (opening p)
opened p =
    sites_opened (site_names p.sites) 0 p.sites (named_sites p.version (counts_of p.seen) p.sites)
    (Each-append IsMade (root_names 0 p.sites) (level_names 0 p.sites) (roots_named 0 p.sites)
    (levels_named 0 p.sites))

-- ---- an event

abbrev GaveIf : Option Numbered → Type 0
GaveIf None = Unit {0}
GaveIf (Some n) = Gave n

tested : (t : Bool) (o : Option Numbered) → GaveIf o → GaveIf (cond t o None)
tested true o h = h
tested false o h = tt

reacted : (n : Numbered) (r : NumberedRule) (took : List AtomId) (o : Option Naming) → Gave n
    → GaveIf (react_received n r took o)
reacted n r took None h = tt
reacted n r took (Some m) h =
    poured_at (record n { atoms = without_all took n.atoms }) m r.loc r.body h

by_rule : (n : Numbered) (took : List AtomId) (o : Option NumberedRule) → Gave n
    → GaveIf (react_rule n took o)
by_rule n took None h = tt
by_rule n took (Some r) h =
    let o = received_all n.atoms r.loc r.pats took in
    tested (live (standing n.places) r.loc) (react_received n r took o) (reacted n r took o h)

at_place : (x : Ref) (f : Loc → Option Numbered) → ((a : Loc) → GaveIf (f a))
    → GaveIf (at_location x f)
at_place (Binder b) f h = tt
at_place (Known (name.Seen i)) f h = tt
at_place (Known (name.Place a)) f h = h a
at_place (Known (name.Chan s k q)) f h = tt
at_place (Known (name.Num n)) f h = tt
at_place (Known (name.Op i)) f h = tt

moves_to : (n : Numbered) (i : AtomId) (l : Loc) (k : Ref) (b : Loc) → Gave n
    → GaveIf (move_to n i l k b)
moves_to n i l k b h = go (can_go n l b) (falls n l b)
  where
    go : (t u : Bool)
        → GaveIf (cond t (Some (pour_at (moved n i l b) [] l (continuation k)))
        (cond u (Some (moved n i l b)) None))
    go true u = poured_at (moved n i l b) [] l (continuation k) h
    go false true = h
    go false false = tt

moves : (n : Numbered) (i : AtomId) (l : Loc) (p : Process) → Gave n → GaveIf (move_atom n i l p)
moves n i l (Go b k) h = at_place b (move_to n i l k) (λ a. moves_to n i l k a h)
moves n i l (Msg x vs) h = tt
moves n i l (Par ps) h = tt
moves n i l (Def ds p) h = tt
moves n i l (Fail a k) h = tt
moves n i l Halt h = tt

halts : (n : Numbered) (i : AtomId) (l : Loc) (p : Process) → Gave n → GaveIf (halt_atom n i l p)
halts n i l Halt h = go (live (standing n.places) l)
  where
    go : (t : Bool)
        → GaveIf (cond t
        (Some (record n { places = with_marks l n.places; atoms = without i n.atoms })) None)
    go true = h
    go false = tt
halts n i l (Msg x vs) h = tt
halts n i l (Par ps) h = tt
halts n i l (Def ds p) h = tt
halts n i l (Go b k) h = tt
halts n i l (Fail a k) h = tt

detects_of : (n : Numbered) (i : AtomId) (l : Loc) (k : Ref) (a : Loc) → Gave n
    → GaveIf (detect_of n i l k a)
detects_of n i l k a h =
    let after : Numbered = record n { atoms = without i n.atoms } in
    tested (can_detect n l a) (Some (pour_at after [] l (continuation k)))
    (poured_at after [] l (continuation k) h)

detects : (n : Numbered) (i : AtomId) (l : Loc) (p : Process) → Gave n
    → GaveIf (detect_atom n i l p)
detects n i l (Fail a k) h = at_place a (detect_of n i l k) (λ b. detects_of n i l k b h)
detects n i l (Msg x vs) h = tt
detects n i l (Par ps) h = tt
detects n i l (Def ds p) h = tt
detects n i l (Go b k) h = tt
detects n i l Halt h = tt

by_atom : (o : Option NumberedAtom) (f : Loc → Process → Option Numbered)
    → ((l : Loc) (p : Process) → GaveIf (f l p)) → GaveIf (with_atom o f)
by_atom None f h = tt
by_atom (Some a) f h = h a.loc a.term

acted : (n : Numbered) (e : Event) → Gave n → GaveIf (apply n e)
acted n (event.React i took) h = by_rule n took (rule_at n.rules i) h
acted n (event.Move i) h = by_atom (atom_at n.atoms i) (move_atom n i) (λ l p. moves n i l p h)
acted n (event.Halt i) h = by_atom (atom_at n.atoms i) (halt_atom n i) (λ l p. halts n i l p h)
acted n (event.Detect i) h =
    by_atom (atom_at n.atoms i) (detect_atom n i) (λ l p. detects n i l p h)

-- ---- a replay

acted_if : (o : Option Numbered) (e : Event) → GaveIf o → GaveIf (apply_if o e)
acted_if None e h = tt
acted_if (Some n) e h = acted n e h

replayed : (journal : List Event) (o : Option Numbered) → GaveIf o → GaveIf (replay_from o journal)
replayed [] o h = h
replayed (e ∷ journal) o h = replayed journal (apply_if o e) (acted_if o e h)

-- ---- the binder of a name

no_binder : (m : Naming) (x : Name) → can_be_made x ≡ false → Each IsMade m → binder_in m x ≡ None
no_binder [] x e h = refl
no_binder (y ∷ m) x e h = go (same_name y.name x) refl (no_binder m x e h.1)
  where
    go : (t : Bool) → same_name y.name x ≡ t → binder_in m x ≡ None
        → cond t (Some y.binder) (binder_in m x) ≡ None
    go true same rest =
        let made : can_be_made x ≡ true =
        subst (λ (z : Name). can_be_made z ≡ true) (same_name_is y.name x same) h.0 in
        cc
    go false same rest = rest

pub only_made_names_have_binders : OnlyMadeNamesHaveBinders
only_made_names_have_binders p journal n e x other =
    let gave : Gave n = subst GaveIf e (replayed journal (Some (opening p)) (opened p)) in
    no_binder n.named x other gave
