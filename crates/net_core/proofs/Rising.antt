-- How far the counts of sites rise, and that births are new.
use Rattle.std.proofs.Common.{◌≡◌, ℕ, zero, suc, ◌+◌, ◌≤◌, List, [], ◌∷◌, ◌++◌, Option, Some, Bool}
use Rattle.std.proofs.Common.{true, false, cond, refl, sym, ap, ◌∙◌, subst, arith, length}
use Rattle.std.proofs.Common.{slice_get, length-append}
use Rattle.std.specs.Prelude.{slice_set, slice_index, ◌-◌}
use Rattle.chem_model.specs.declared.name.Loc.{Loc}
use Rattle.chem_model.specs.declared.name.Name.{Name}
use Rattle.chem_model.specs.declared.name.Name.TheVariants as name
use Rattle.chem_model.specs.declared.name.Ref.TheVariants.{Known}
use Rattle.chem_model.specs.declared.event.AtomId.{AtomId}
use Rattle.chem_model.specs.declared.event.Event.{Event}
use Rattle.chem_model.specs.declared.numbered.NumberedRule.{NumberedRule}
use Rattle.chem_model.specs.declared.numbered.Made.{Made}
use Rattle.chem_model.specs.declared.numbered.Numbered.{Numbered}
use Rattle.chem_model.specs.Process.{Msg}
use Rattle.chem_model.specs.ProgramFacts.{ProgramTerms, IsProgram}
use Rattle.chem_model.specs.Bag.{bag}
use Rattle.chem_model.specs.Each.{Each}
use Rattle.chem_model.specs.Apply.{without_all}
use Rattle.chem_model.specs.NewNames.{Pair, coded_pair}
use Rattle.chem_model.specs.Numbered.{place_pairs}
use Rattle.chem_model.specs.Opening.{root_of, counts_of}
use Rattle.chem_model.specs.declared.operation.Became.{Became}
use Rattle.chem_model.specs.Pour.{is_count, out_made, atom_made, operated_made, pour}
use Rattle.chem_laws.proofs.Lists.{Each-weaker}
use Rattle.chem_laws.proofs.Places.{place_pairs-append}
use Rattle.wire_packet.specs.MessageFacts.{MessageParts}
use Rattle.wire_packet.specs.GroupFacts.{GroupParts}
use Rattle.env_store.specs.declared.code.Guard.{Guard}
use Rattle.env_store.specs.declared.code.Level.{Level}
use Rattle.env_store.specs.CodeParts.{CodeParts}
use Rattle.env_store.specs.CodeFacts.{IsCode, received}
use Rattle.env_store.specs.Reading.{IsCodeOf}
use Rattle.env_store.specs.Running.{code_made}
use Rattle.env_store.specs.Laws.{rules_of_group}
use Rattle.env_store.proofs.RuleGuards.{reacting_is_pouring}
use Rattle.loc_tree.specs.Tree.{spot, number_in, is_alive, with_number}
use Rattle.net_laws.specs.Site.{Told, Group, Site, told_in}
use Rattle.net_laws.specs.Net.{Net, Stands, among, home_or, address, without_packet}
use Rattle.net_laws.specs.Changes.{births_at, given_all, ids, AreQueues, Takes}
use Rattle.net_laws.specs.Holding.{put, drop_request}
use Rattle.net_laws.specs.Posting.{posted_of, with_queues}
use Rattle.net_laws.specs.Parcels.{all_told, pack, remove, take_in}
use Rattle.net_laws.specs.ByCode.{told_by, args_of, IsOfCode, counts_at}
use Rattle.net_laws.specs.Moves.{continuation_made, moved_made}
use Rattle.net_laws.specs.Opened.{RunsCode, AreNew}
use Rattle.net_laws.proofs.Agree.{fresh_births}
use Rattle.net_laws.proofs.ByCode.{run_at, site_is_part}
use Rattle.net_laws.proofs.Follows.{group_hosted}
use Rattle.net_laws.proofs.Holds.{each_get, laid_at}
use Rattle.net_laws.proofs.Opened.{new_births}
use Rattle.net_laws.proofs.Posting.{each_set}
use Rattle.net_laws.proofs.Queues.{queue_is, queues_left}
use Rattle.net_core.specs.Acting.{Reacts, Delivers, Halts, Detects, Moves, stays, leaves}
use Rattle.net_core.specs.Rising.{AllMade, CountsRise, ReactionsBearNew}
use Rattle.site_solution.proofs.Dropping.{operated_none}
use Rattle.net_core.proofs.Leading.{get_some, known}
use Rattle.net_core.proofs.Poured.{poured_made, put_made}

-- the arguments of the fronts are as many as the channels receive
count_at : (counts : List ℕ) (c n : ℕ) → slice_get counts c ≡ Some n → slice_index counts c ≡ n
count_at [] c n e = cc
count_at (m ∷ ms) zero n e = let same : m ≡ n = cc in same
count_at (m ∷ ms) (suc c) n e = count_at ms c n e

-- a queue belongs to a channel with a count
counted :
    (i : GroupParts) (k : ℕ) (counts : List ℕ) (qs : List (List MessageParts)) (c : ℕ)
    (q : List MessageParts) → AreQueues i k counts qs → slice_get qs c ≡ Some q
    → (n : ℕ) × (slice_get counts c ≡ Some n)
counted i k [] [] c q h e = cc
counted i k [] (x ∷ qs) c q h e = absurd h
counted i k (n ∷ ns) [] c q h e = absurd h
counted i k (n ∷ ns) (x ∷ qs) zero q h e = (n, refl)
counted i k (n ∷ ns) (x ∷ qs) (suc c) q h e = counted i (k + 1) ns qs c q h.1 e

taken_args :
    (i : GroupParts) (counts : List ℕ) (qs : List (List MessageParts)) (cs : List ℕ)
    (ms : List MessageParts) (left : List (List MessageParts)) → AreQueues i 0 counts qs
    → Takes qs cs ms left → length (args_of ms) ≡ received counts cs
taken_args i counts qs [] [] left h t = refl
taken_args i counts qs [] (m ∷ ms) left h t = absurd t
taken_args i counts qs (c ∷ cs) [] left h t = absurd t
taken_args i counts qs (c ∷ cs) (m ∷ ms) left h t =
    let of = counted i 0 counts qs c (m ∷ t.0) h t.1 in
    let front = queue_is i 0 counts qs c of.0 (m ∷ t.0) h t.1 of.1 in
    let many : length m.args ≡ slice_index counts c =
    front.0.1 ∙ sym (count_at counts c of.0 of.1) in
    omega (
      arith,
      length-append m.args (args_of ms),
      many,
      taken_args i counts (slice_set qs c t.0) cs ms left (queues_left i 0 counts qs c m t.0 h t.1)
          t.2,
    )

pub all_more : (a b : ℕ) → a ≤ b → (ss : List Site) → Each (λ (s : Site). s.made ≤ a) ss
    → Each (λ (s : Site). s.made ≤ b) ss
all_more a b le ss h = Each-weaker (λ (s : Site). s.made ≤ a) (λ (s : Site). s.made ≤ b)
    (λ s g. omega (arith, g, le)) ss h

one_made : (net new : Net) (i : ℕ) (t : Site) (a b : ℕ) → a ≤ b
    → new.sites ≡ slice_set net.sites i t → t.made ≤ b → AllMade a net → AllMade b new
one_made net new i t a b le sites here all = subst (Each (λ (s : Site). s.made ≤ b)) (sym sites)
    (each_set (λ (s : Site). s.made ≤ b) net.sites i t (all_more a b le net.sites all) here)

-- a continuation draws at most one number
continuation_draws : (seen : List ℕ) (i : ℕ) (l : Loc) (k : ℕ) (cont : Name)
    → (continuation_made seen i l k cont).next ≤ k + 1
continuation_draws seen i l k (name.Seen j) = go (is_count (slice_get seen j) 0)
  where
    go : (u : Bool)
        → (cond {A = Made} u (out_made k j [])
        (atom_made i l k (Msg (Known (name.Seen j)) []))).next ≤ k + 1
    go true = omega arith
    go false = omega arith
continuation_draws seen i l k (name.Place a) = omega arith
continuation_draws seen i l k (name.Chan s j h) = omega arith
continuation_draws seen i l k (name.Num n) = omega arith
continuation_draws seen i l k (name.Op n) =
    subst (λ (o : Option Became). (operated_made seen i l k n [] o).next ≤ k + 1)
    (sym (operated_none n)) (omega arith)

-- and a move as many, or none
moved_draws : (alive : Bool) (seen : List ℕ) (i : ℕ) (l : Loc) (k : ℕ) (cont : Name)
    → (moved_made alive seen i l k cont).next ≤ k + 1
moved_draws true seen i l k cont = continuation_draws seen i l k cont
moved_draws false seen i l k cont = omega arith

module _ (p : ProgramTerms) (c : CodeParts) (ok : IsProgram p) (kept : IsCode c) (is : IsCodeOf p c)
    (net new : Net) (n : Numbered) (stands : Stands (rules_of_group p) net n)
    (runs : RunsCode p c net) where
  abbrev rules_by : GroupParts → List NumberedRule
  rules_by = rules_of_group p

  made_below : (i : ℕ) (s : Site) (most : ℕ) → slice_get net.sites i ≡ Some s → AllMade most net
      → s.made ≤ most
  made_below i s most here all = each_get (λ (u : Site). u.made ≤ most) net.sites i s here all

  -- a reaction draws what its guard's body may
  reaction_draws : (i j k most : ℕ) (e : Event) → Reacts c net i j k e new → AllMade most net
      → AllMade (most + 1048576) new
  reaction_draws i j k most e does all =
      let s = does.by.site in
      let g = does.by.group in
      let level = does.by.level in
      let guard = does.by.guard in
      let here = does.by.site_is in
      let held = does.by.group_is in
      let s_is = known p c ok kept is net n i s runs here in
      let of = each_get (IsOfCode p c) (told_in s.groups) j g.told (laid_at s.groups j g held)
      s_is.of_code in
      let group = reacting_is_pouring p c ok kept is g.told.inst of.0 in
      let same_level : Some group.level ≡ Some level = sym group.level_is ∙ does.by.level_is in
      let levels_are : group.level ≡ level = cc in
      let at = kept.guards k guard does.by.guard_is in
      let mine =
      (kept.levels g.told.inst.level level does.by.level_is).guards k does.by.from does.by.below in
      let guards_are : Some mine.0 ≡ Some guard = sym mine.1 ∙ does.by.guard_is in
      let one_guard : mine.0 ≡ guard = cc in
      let number : guard.level ≡ g.told.inst.level =
      ap (λ (v : Guard). v.level) (sym one_guard) ∙ mine.2 in
      let its : Some at.level ≡ Some level =
      sym at.is_there ∙ ap (slice_get c.levels) number ∙ does.by.level_is in
      let its_level : at.level ≡ level = cc in
      let queues = each_get (λ (h : Group). AreQueues h.told.inst 0 h.told.counts h.queues)
      s.groups j g held s_is.kept_s.queues in
      let counts : g.told.counts ≡ level.counts =
      ap (λ (d : Told). d.counts) (sym of.1) ∙ ap counts_at does.by.level_is in
      let args : length (args_of does.taken) ≡ received at.level.counts guard.chans =
      taken_args g.told.inst g.told.counts g.queues guard.chans does.taken does.left queues
      does.takes
      ∙ ap (λ ns. received ns guard.chans)
      (counts ∙ ap (λ (v : Level). v.counts) (sym its_level)) in
      let depth : length g.told.inst.env ≡ at.level.depth =
      group.depth ∙ ap (λ (v : Level). v.depth) (levels_are ∙ sym its_level) in
      let env = g.told.inst.env ++ args_of does.taken in
      let draws = at.body.draws i env g.told.inst.loc s.made
      (omega (arith, length-append g.told.inst.env (args_of does.taken), args, depth)) in
      let a = code_made c i guard.body env g.told.inst.loc s.made in
      let made = poured_made net.tree a.next a.births (all_told (told_by c) a.groups)
      (posted_of a.atoms) (with_queues s j g does.left) in
      one_made net new i _ most (most + 1048576) (omega arith)
      (ap (λ (w : Net). w.sites) does.new_is)
      (omega (arith, made, draws, made_below i s most here all)) all

  delivery_draws : (f most : ℕ) → Delivers net f new → AllMade most net → AllMade most new
  delivery_draws f most does all = subst (AllMade most) (sym does.new_is)
      (go (among does.site.locs (home_or (root_of does.packet.target) does.packet.msg.on)))
    where
      home : Loc
      home = home_or (root_of does.packet.target) does.packet.msg.on

      go : (u : Bool) → AllMade most (cond {A = Net} u (record net {
        sites = slice_set net.sites does.packet.target (put home does.packet.msg does.site);
        packets = without_packet f net.packets;
      })
          (record net {
            packets = without_packet f net.packets
                ++ record { target = address net.tree home; msg = does.packet.msg } ∷ [];
          }))
      go true = each_set (λ (s : Site). s.made ≤ most)
          net.sites does.packet.target (put home does.packet.msg does.site) all (omega (
            arith,
            put_made home does.packet.msg does.site,
            made_below does.packet.target does.site most does.site_is all,
          ))
      go false = all

  halt_draws : (a : AtomId) (most : ℕ) → Halts net a new → AllMade most net → AllMade most new
  halt_draws a most does all =
      one_made net new does.asks.number (drop_request a does.asks.site) most most (omega arith)
      (ap (λ (w : Net). w.sites) does.new_is)
      (made_below does.asks.number does.asks.site most does.asks.site_is all) all

  detection_draws : (a : AtomId) (most : ℕ) → Detects net a new → AllMade most net
      → AllMade (most + 1) new
  detection_draws a most does all =
      let s = does.asks.site in
      let m = continuation_made net.seen does.asks.number does.asks.request.loc s.made does.cont in
      one_made net new does.asks.number _ most (most + 1) (omega arith)
      (ap (λ (w : Net). w.sites) does.new_is)
      (omega (
        arith,
        poured_made net.tree m.next [] [] (posted_of m.atoms) (drop_request a s),
        continuation_draws net.seen does.asks.number does.asks.request.loc s.made does.cont,
        made_below does.asks.number s most does.asks.site_is all,
      )) all

  move_draws : (a : AtomId) (most : ℕ) → Moves net a new → AllMade most net → AllMade (most + 1) new
  move_draws a most (stays does) all =
      let i = does.go.asks.number in
      let s = does.go.asks.site in
      let l = does.go.asks.request.loc in
      let m = continuation_made net.seen i l s.made does.go.cont in
      one_made net new i _ most (most + 1) (omega arith) (ap (λ (w : Net). w.sites) does.new_is)
      (omega (
        arith,
        poured_made net.tree m.next [] [] (posted_of m.atoms) (drop_request a s),
        continuation_draws net.seen i l s.made does.go.cont,
        made_below i s most does.go.asks.site_is all,
      )) all
  move_draws a most (leaves does) all =
      let i = does.go.asks.number in
      let j = does.go.target.site in
      let from = does.go.asks.site in
      let into = does.into in
      let l = does.go.asks.request.loc in
      let alive = is_alive net.tree does.go.target in
      let m = moved_made alive net.seen j l into.made does.go.cont in
      let left = remove l (drop_request a from) in
      let load = pack l (drop_request a from) in
      let first : Each (λ (s : Site). s.made ≤ most + 1) (slice_set net.sites i left) =
      each_set (λ (s : Site). s.made ≤ most + 1) net.sites i left
      (all_more most (most + 1) (omega arith) net.sites all)
      (omega (arith, made_below i from most does.go.asks.site_is all)) in
      subst (Each (λ (s : Site). s.made ≤ most + 1)) (sym (ap (λ (w : Net). w.sites) does.new_is))
      (each_set (λ (s : Site). s.made ≤ most + 1) (slice_set net.sites i left) j _ first
      (omega (
        arith,
        poured_made (with_number net.tree l j) m.next [] [] (posted_of m.atoms) (take_in load into),
        moved_draws alive net.seen j l into.made does.go.cont,
        made_below j into most does.into_is all,
      )))

  -- births are new
  bears_new : (i j k : ℕ) (e : Event) (does : Reacts c net i j k e new)
      → AreNew net.tree i
      (code_made c i does.by.guard.body (does.by.group.told.inst.env ++ args_of does.taken)
      does.by.group.told.inst.loc does.by.site.made).births
  bears_new i j k e does =
      let s = does.by.site in
      let g = does.by.group in
      let level = does.by.level in
      let guard = does.by.guard in
      let ms = does.taken in
      let left = does.left in
      let here = does.by.site_is in
      let held = does.by.group_is in
      let s_is = known p c ok kept is net n i s runs here in
      let of = each_get (IsOfCode p c) (told_in s.groups) j g.told (laid_at s.groups j g held)
      s_is.of_code in
      let group = reacting_is_pouring p c ok kept is g.told.inst of.0 in
      let same_level : Some group.level ≡ Some level = sym group.level_is ∙ does.by.level_is in
      let levels_are : group.level ≡ level = cc in
      let q = k - level.first in
      let from = does.by.from in
      let below = does.by.below in
      let many : length (rules_by g.told.inst) ≡ level.guards =
      group.guards ∙ ap (λ (v : Level). v.guards) levels_are in
      let found = get_some (rules_by g.told.inst) q (omega arith) in
      let r = found.0 in
      let rule = group.rules q r found.1 in
      let number : level.first + q ≡ k = omega arith in
      let guard_is : slice_get c.guards (level.first + q) ≡ Some guard =
      ap (slice_get c.guards) number ∙ does.by.guard_is in
      let lives : is_alive net.tree r.loc ≡ true =
      ap (is_alive net.tree) rule.loc ∙ does.by.alive in
      let hosted : number_in (spot net.tree r.loc) ≡ Some i =
      ap (λ (l : Loc). number_in (spot net.tree l)) rule.loc
      ∙ group_hosted rules_by net n stands i j s g here s_is.kept_s held in
      let part = site_is_part p c ok kept is net n i s stands runs.seen here in
      let ran =
      run_at p c ok kept is net.tree i j s g q r level guard ms left _ _ n part s_is.kept_s
      s_is.of_code s_is.drawn held found.1 does.by.level_is guard_is hosted lives does.takes in
      let made = pour (counts_of p.seen) i (root_of i) (given_all r.pats ms) r.loc s.made r.body in
      let a = code_made c i guard.body (g.told.inst.env ++ args_of ms) r.loc s.made in
      let rest : Numbered = record n { atoms = without_all (ids ms) n.atoms } in
      let fresh = fresh_births rest i made net.tree (root_of i)
      a.births ran.3 part.tree.same ran.1.gives.births_are in
      let once : (x : Pair) → bag coded_pair (place_pairs (births_at (root_of i) a.births)) x ≤ 1 =
      λ x. omega (
        arith,
        ran.3.different x,
        place_pairs-append n.places made.births x,
        ap (λ bs. bag coded_pair (place_pairs bs) x) ran.1.gives.births_are,
      ) in
      subst (λ (l : Loc).
      AreNew net.tree i (code_made c i guard.body (g.told.inst.env ++ args_of ms) l s.made).births)
      rule.loc (new_births net.tree i (root_of i) a.births fresh once)

pub counts_rise : CountsRise
counts_rise p c ok kept is net new n stands runs = record {
  reacts = reaction_draws p c ok kept is net new n stands runs;
  delivers = delivery_draws p c ok kept is net new n stands runs;
  halts = halt_draws p c ok kept is net new n stands runs;
  detects = detection_draws p c ok kept is net new n stands runs;
  moves = move_draws p c ok kept is net new n stands runs;
}

pub reactions_bear_new : ReactionsBearNew
reactions_bear_new p c ok kept is net new n stands runs =
    bears_new p c ok kept is net new n stands runs
