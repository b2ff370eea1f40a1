-- In the code of a program, each block has its levels, each level its block, and each place its
-- body.
use Rattle.std.proofs.Common.{◌≡◌, ℕ, zero, suc, ◌+◌, ◌<◌, List, [], ◌∷◌, ◌++◌, length, Option}
use Rattle.std.proofs.Common.{Some, None, refl, sym, ap, ◌∙◌, subst, arith, length-append}
use Rattle.std.specs.Prelude.{slice_get}
use Rattle.std.proofs.lemmas.Option.{slice_get_within}
use Rattle.chem_model.specs.declared.name.Ref.{Ref}
use Rattle.chem_model.specs.declared.name.Ref.TheVariants.{Binder, Known}
use Rattle.chem_model.specs.declared.program.SiteTerm.{SiteTerm}
use Rattle.chem_model.specs.Process as term
use Rattle.chem_model.specs.Process.{Process, Msg, Par, Def, Go, Fail, Halt, Processes, none}
use Rattle.chem_model.specs.Process.{one_more, Definition, Rule, Place, Definitions, no_definition}
use Rattle.chem_model.specs.Process.{and_also}
use Rattle.chem_model.specs.ProgramFacts.{ProgramTerms}
use Rattle.chem_model.specs.Binders.{binder_of, params_of}
use Rattle.chem_model.specs.Scope.{IsBinder}
use Rattle.chem_model.specs.Each.{Each}
use Rattle.chem_model.specs.Fill.{Naming}
use Rattle.chem_model.specs.Opening.{site_names}
use Rattle.chem_laws.proofs.Lists.{Each-append}
use Rattle.env_store.specs.declared.code.Level.{Level}
use Rattle.env_store.specs.declared.code.Block.{Block}
use Rattle.env_store.specs.CodeParts.{CodeParts}
use Rattle.env_store.specs.CodeFacts.{IsBlockAt, place_at, names_made, place_names_made}
use Rattle.env_store.specs.Layout.{rules_in, new_channels, new_counts, place_order, place_in}
use Rattle.env_store.specs.Layout.{places_order, order}
use Rattle.env_store.specs.Running.{numbered_levels}
use Rattle.env_store.proofs.Pouring.{level_counts}
use Rattle.guard_compile.specs.declared.write.At.{At}
use Rattle.guard_compile.specs.declared.write.Piece.{Piece}
use Rattle.guard_compile.specs.declared.write.Defined.{Defined}
use Rattle.guard_compile.specs.Written.{join, behind, inside, body_piece, level_piece}
use Rattle.guard_compile.specs.Written.{block_piece, level_of, Wrote, with_body, write}
use Rattle.guard_compile.specs.Written.{write_all, write_defs, write_def, site_piece}
use Rattle.guard_compile.specs.Written.{write_sites, code_of}
use Rattle.guard_compile.proofs.From.{after, Holds, holds_left, holds_right}
use Rattle.guard_compile.proofs.Slotted.{Slotted, AllSlotted, DefsSlotted, DefSlotted}
use Rattle.guard_compile.proofs.WrittenReads.{block_after, level_after, next_is, next_is_defs}
use Rattle.guard_compile.proofs.WrittenReads.{next_is_def, guards_long}
use Rattle.guard_compile.proofs.CodeFalls.{one_level}
use Rattle.guard_compile.proofs.CodeRead.{SitesSlotted, has_all, sat, sd, sw, sfront, front_next}
use Rattle.guard_compile.proofs.CodeRead.{defs_next, site_next}

-- a place has a body, and a block's own list has none
abbrev pub PlaceHasBody : Option ℕ → Option ℕ → Type 0
PlaceHasBody None None = Unit {0}
PlaceHasBody None (Some j) = ⊥
PlaceHasBody (Some i) None = ⊥
PlaceHasBody (Some i) (Some j) = Unit {0}

binder_long : (x : Ref) → IsBinder x → length (binder_of x) ≡ 1
binder_long (Binder b) h = refl
binder_long (Known n) h = absurd h

module _ (c : CodeParts) where
  pub record LevelPlaced (v : Level) : Type 0 where
    pub block : v.block < length c.blocks
    pub body : PlaceHasBody v.place v.body

  -- the levels of a block's places, from the place i on
  abbrev PlacesFrom : ℕ → ℕ → List ℕ → Type 0
  PlacesFrom b i [] = Unit {0}
  PlacesFrom b i (n ∷ ns) =
      ((v : Level) × (slice_get c.levels n ≡ Some v) × (v.block ≡ b) × (v.place ≡ Some i))
      × PlacesFrom b (i + 1) ns

  place_found : (b k : ℕ) (ns : List ℕ) → PlacesFrom b k ns → (i n : ℕ) → slice_get ns i ≡ Some n
      → (v : Level) × (slice_get c.levels n ≡ Some v) × (v.block ≡ b) × (v.place ≡ Some (k + i))
  place_found b k [] h i n e = cc
  place_found b k (m ∷ ns) h zero n e =
      let same : m ≡ n = cc in
      let at : k ≡ k + 0 = omega arith in
      (h.0.0, ap (slice_get c.levels) (sym same) ∙ h.0.1, h.0.2, h.0.3 ∙ ap (λ (q : ℕ). Some q) at)
  place_found b k (m ∷ ns) h (suc i) n e =
      let at : (k + 1) + i ≡ k + suc i = omega arith in
      let rest = place_found b (k + 1) ns h.1 i n e in
      (rest.0, rest.1, rest.2, rest.3 ∙ ap (λ (q : ℕ). Some q) at)

  -- the blocks from the number n on
  abbrev BlocksFrom : ℕ → List Block → Type 0
  BlocksFrom n [] = Unit {0}
  BlocksFrom n (b ∷ bs) = IsBlockAt c n b × BlocksFrom (n + 1) bs

  blocks_joined : (n : ℕ) (xs ys : List Block) → BlocksFrom n xs → BlocksFrom (n + length xs) ys
      → BlocksFrom n (xs ++ ys)
  blocks_joined n [] ys h g =
      let at : n + length {A = Block} [] ≡ n = omega arith in
      subst (λ k. BlocksFrom k ys) at g
  blocks_joined n (x ∷ xs) ys h g =
      let at : n + length (x ∷ xs) ≡ (n + 1) + length xs = omega arith in
      (h.0, blocks_joined (n + 1) xs ys h.1 (subst (λ k. BlocksFrom k ys) at g))

  block_found : (n : ℕ) (xs : List Block) → BlocksFrom n xs → (i : ℕ) (b : Block)
      → slice_get xs i ≡ Some b → IsBlockAt c (n + i) b
  block_found n [] h i b e = cc
  block_found n (x ∷ xs) h zero b e =
      let same : x ≡ b = cc in
      let at : n ≡ n + 0 = omega arith in
      subst (λ k. IsBlockAt c k b) at (subst (IsBlockAt c n) same h.0)
  block_found n (x ∷ xs) h (suc i) b e =
      let at : (n + 1) + i ≡ n + suc i = omega arith in
      subst (λ k. IsBlockAt c k b) at (block_found (n + 1) xs h.1 i b e)

  -- a piece whose blocks come from the number of `at` on
  pub record Placed (at : At) (a : Piece) : Type 0 where
    pub levels : Each LevelPlaced a.levels
    pub blocks : BlocksFrom at.block a.blocks

  placed_joined : (at next : At) (a b : Piece) → next ≡ after at a → Placed at a → Placed next b
      → Placed at (join a b)
  placed_joined at next a b e h g = record {
    levels = Each-append LevelPlaced a.levels b.levels h.levels g.levels;
    blocks = blocks_joined at.block a.blocks b.blocks h.blocks
        (subst (λ n. BlocksFrom n b.blocks) (ap (λ (q : At). q.block) e) g.blocks);
  }

  module _ (tops : Naming) where
    places_from : (ds : Definitions) (at : At) (b i n : ℕ) (channels z acc : List ℕ)
        → Holds c at (write_defs tops at b i n channels z acc ds).piece
        → PlacesFrom b i (write_defs tops at b i n channels z acc ds).places
    places_from no_definition at b i n channels z acc h = tt
    places_from (and_also (Rule ps p) ds) at b i n channels z acc h =
        let a = write_def tops at b i n channels z acc (Rule ps p) in
        let v = write_defs tops a.piece.next b (i + length a.places) n channels z (acc ++ []) ds in
        let same : i + length a.places ≡ i = omega arith in
        subst (λ k. PlacesFrom b k
        (write_defs tops a.piece.next b (i + length a.places) n channels z (acc ++ []) ds).places)
        same
        (places_from ds a.piece.next b (i + length a.places) n channels z (acc ++ [])
        (holds_right c at a.piece v.piece (next_is_def tops (Rule ps p) at b i n channels z acc) h))
    places_from (and_also (Place x es p) ds) at b i n channels z acc h =
        let d = Place x es p in
        let a = write_def tops at b i n channels z acc d in
        let v = write_defs tops a.piece.next b (i + length a.places) n channels z
        (acc ++ place_in acc d) ds in
        let at1 = behind at (rules_in es) in
        let e = write_defs tops at1 b 0 at.level (new_channels (acc ++ binder_of x) es) z
        (acc ++ place_order acc x es) es in
        let w = write tops e.piece.next z p in
        let own = level_of tops at b (Some i) z (acc ++ binder_of x) es (Some w.piece.next.body) in
        let first = holds_left c at a.piece v.piece h in
        let next : i + length a.places ≡ i + 1 = omega arith in (
          (own, first.levels.0, refl, refl),
          subst (λ k. PlacesFrom b k v.places) next (places_from ds a.piece.next b
              (i + length a.places) n channels z (acc ++ place_in acc d)
              (holds_right c at a.piece v.piece (next_is_def tops d at b i n channels z acc) h)),
        )

    places_named : (ds : Definitions) (at : At) (b i n : ℕ) (channels z acc : List ℕ)
        → DefsSlotted tops z channels acc ds
        → Holds c at (write_defs tops at b i n channels z acc ds).piece
        → length (places_order acc ds)
        ≡ place_names_made
        (numbered_levels c.levels (write_defs tops at b i n channels z acc ds).places)
    places_named no_definition at b i n channels z acc o h = refl
    places_named (and_also (Rule ps p) ds) at b i n channels z acc o h =
        let a = write_def tops at b i n channels z acc (Rule ps p) in
        let v = write_defs tops a.piece.next b (i + length a.places) n channels z (acc ++ []) ds in
        places_named ds a.piece.next b (i + length a.places) n channels z (acc ++ []) o.1
        (holds_right c at a.piece v.piece (next_is_def tops (Rule ps p) at b i n channels z acc) h)
    places_named (and_also (Place x es p) ds) at b i n channels z acc o h =
        let d = Place x es p in
        let a = write_def tops at b i n channels z acc d in
        let v = write_defs tops a.piece.next b (i + length a.places) n channels z
        (acc ++ place_in acc d) ds in
        let at1 = behind at (rules_in es) in
        let bs = new_channels (acc ++ binder_of x) es in
        let e = write_defs tops at1 b 0 at.level bs z (acc ++ place_order acc x es) es in
        let w = write tops e.piece.next z p in
        let own = level_of tops at b (Some i) z (acc ++ binder_of x) es (Some w.piece.next.body) in
        let first = holds_left c at a.piece v.piece h in
        let rest =
        places_named ds a.piece.next b (i + length a.places) n channels z (acc ++ place_in acc d)
        o.1 (holds_right c at a.piece v.piece (next_is_def tops d at b i n channels z acc) h) in
        let mine = place_order acc x es in
        let sum : length (mine ++ places_order (acc ++ mine) ds)
        ≡ 1 + length (new_counts (acc ++ binder_of x) es)
        + place_names_made (numbered_levels c.levels v.places) =
        omega (
          arith,
          rest,
          length-append mine (places_order (acc ++ mine) ds),
          length-append (binder_of x) bs,
          binder_long x o.0.0,
          level_counts (acc ++ binder_of x) es,
        ) in
        sum ∙ ap place_names_made (sym (one_level c at.level v.places own first.levels.0))

    -- a block with its own level first
    block_placed : (at : At) (z : List ℕ) (ds : Definitions) (n : ℕ) (d : Defined) (own : Level)
        → slice_get c.levels n ≡ Some own → own.block ≡ at.block → own.place ≡ None
        → own.counts ≡ new_counts [] ds
        → PlacesFrom at.block 0 d.places
        → length (places_order (new_channels [] ds) ds)
        ≡ place_names_made (numbered_levels c.levels d.places)
        → IsBlockAt c at.block (record { levels = n ∷ d.places; names = length (order ds) })
    block_placed at z ds n d own there block place counts places named = record {
      some = omega arith;
      levels = found;
      names =
          let bs = new_channels [] ds in
          let sum : length (order ds)
          ≡ length own.counts + place_names_made (numbered_levels c.levels d.places) =
          omega (
            arith,
            named,
            length-append bs (places_order bs ds),
            level_counts [] ds,
            ap {B = ℕ} (λ xs. length xs) counts,
          ) in
          sum ∙ ap names_made (sym (one_level c n d.places own there));
    }
      where
        found : (i m : ℕ) → slice_get (n ∷ d.places) i ≡ Some m
            → (v : Level) × (slice_get c.levels m ≡ Some v) × (v.block ≡ at.block)
            × (v.place ≡ place_at i)
        found zero m e =
            let same : n ≡ m = cc in
            (own, ap (slice_get c.levels) (sym same) ∙ there, block, place)
        found (suc i) m e =
            let rest = place_found at.block 0 d.places places i m e in
            let same : 0 + i ≡ i = omega arith in
            (rest.0, rest.1, rest.2, rest.3 ∙ ap (λ (q : ℕ). Some q) same)

    body_placed : (at : At) (is : _) → Placed at (body_piece at is)
    body_placed at is = record { levels = tt; blocks = tt }

    with_body_placed : (at : At) (w : Wrote) → w.piece.next ≡ after at w.piece → Placed at w.piece
        → Placed at (with_body tops w)
    with_body_placed at w e h =
        placed_joined at w.piece.next w.piece (body_piece w.piece.next w.instrs) e h
        (body_placed w.piece.next w.instrs)

    mutual
      placed : (p : Process) (at : At) (y : List ℕ) → Slotted tops y p
          → Holds c at (write tops at y p).piece → Placed at (write tops at y p).piece
      placed (Msg x vs) at y o h = record { levels = tt; blocks = tt }
      placed (Par ps) at y o h = placed_all ps at y o h
      placed (Def ds p) at y o h =
          let z = y ++ order ds in
          let bs = new_channels [] ds in
          let at1 = behind (inside at) (rules_in ds) in
          let d = write_defs tops at1 at.block 0 at.level bs z bs ds in
          let w = write tops d.piece.next z p in
          let own = level_of tops at at.block None z [] ds None in
          let block : Block = record { levels = at.level ∷ d.places; names = length (order ds) } in
          let front = block_piece at (rules_in ds) own d.guards block in
          let head = holds_left c at front (join d.piece w.piece) h in
          let next1 = block_after at (rules_in ds) own d.guards block
          (guards_long tops ds at1 at.block 0 at.level bs z bs) in
          let back = holds_right c at front (join d.piece w.piece) next1 h in
          let defs = holds_left c at1 d.piece w.piece back in
          let next2 = next_is_defs tops ds at1 at.block 0 at.level bs z bs in
          let body = holds_right c at1 d.piece w.piece next2 back in
          let within : at.block < length c.blocks =
          slice_get_within c.blocks at.block block head.blocks.0 in
          let mine = block_placed at z ds at.level d own head.levels.0 refl refl refl
          (places_from ds at1 at.block 0 at.level bs z bs defs)
          (places_named ds at1 at.block 0 at.level bs z bs o.1 defs) in
          placed_joined at at1 front (join d.piece w.piece) next1
          (record { levels = (record { block = within; body = tt }, tt); blocks = (mine, tt) })
          (placed_joined at1 d.piece.next d.piece w.piece next2
          (placed_defs ds at1 at.block 0 at.level bs z bs within o.1 defs)
          (placed p d.piece.next z o.2 body))
      placed (Go b k) at y o h = record { levels = tt; blocks = tt }
      placed (Fail b k) at y o h = record { levels = tt; blocks = tt }
      placed Halt at y o h = record { levels = tt; blocks = tt }

      placed_all : (ps : Processes) (at : At) (y : List ℕ) → AllSlotted tops y ps
          → Holds c at (write_all tops at y ps).piece → Placed at (write_all tops at y ps).piece
      placed_all none at y o h = record { levels = tt; blocks = tt }
      placed_all (one_more p ps) at y o h =
          let w = write tops at y p in
          let v = write_all tops w.piece.next y ps in
          let next = next_is tops p at y in
          placed_joined at w.piece.next w.piece v.piece next
          (placed p at y o.0 (holds_left c at w.piece v.piece h))
          (placed_all ps w.piece.next y o.1 (holds_right c at w.piece v.piece next h))

      placed_defs : (ds : Definitions) (at : At) (b i n : ℕ) (channels z acc : List ℕ)
          → b < length c.blocks → DefsSlotted tops z channels acc ds
          → Holds c at (write_defs tops at b i n channels z acc ds).piece
          → Placed at (write_defs tops at b i n channels z acc ds).piece
      placed_defs no_definition at b i n channels z acc g o h = record { levels = tt; blocks = tt }
      placed_defs (and_also d ds) at b i n channels z acc g o h =
          let a = write_def tops at b i n channels z acc d in
          let v = write_defs tops a.piece.next b (i + length a.places) n channels z
          (acc ++ place_in acc d) ds in
          let next = next_is_def tops d at b i n channels z acc in
          placed_joined at a.piece.next a.piece v.piece next
          (placed_def d at b i n channels z acc g o.0 (holds_left c at a.piece v.piece h))
          (placed_defs ds a.piece.next b (i + length a.places) n channels z (acc ++ place_in acc d)
          g o.1 (holds_right c at a.piece v.piece next h))

      placed_def : (d : Definition) (at : At) (b i n : ℕ) (channels z acc : List ℕ)
          → b < length c.blocks → DefSlotted tops z channels acc d
          → Holds c at (write_def tops at b i n channels z acc d).piece
          → Placed at (write_def tops at b i n channels z acc d).piece
      placed_def (Rule ps p) at b i n channels z acc g o h =
          let y = z ++ params_of ps in
          let w = write tops at y p in
          with_body_placed at w (next_is tops p at y)
          (placed p at y o.1 (holds_left c at w.piece (body_piece w.piece.next w.instrs) h))
      placed_def (Place x es p) at b i n channels z acc g o h =
          let at1 = behind at (rules_in es) in
          let own = new_channels (acc ++ binder_of x) es in
          let acc' = acc ++ place_order acc x es in
          let d = write_defs tops at1 b 0 at.level own z acc' es in
          let w = write tops d.piece.next z p in
          let v = level_of tops at b (Some i) z (acc ++ binder_of x) es (Some w.piece.next.body) in
          let head = level_piece at (rules_in es) v d.guards in
          let next1 = level_after at (rules_in es) v
          d.guards (guards_long tops es at1 b 0 at.level own z acc') in
          let inner = holds_right c at head (join d.piece (with_body tops w)) next1 h in
          let next2 = next_is_defs tops es at1 b 0 at.level own z acc' in
          let body = holds_right c at1 d.piece (with_body tops w) next2 inner in
          placed_joined at at1 head (join d.piece (with_body tops w)) next1
          (record { levels = (record { block = g; body = tt }, tt); blocks = tt })
          (placed_joined at1 d.piece.next d.piece (with_body tops w) next2 (placed_defs es at1 b 0
          at.level own z acc' g o.1 (holds_left c at1 d.piece (with_body tops w) inner))
          (with_body_placed d.piece.next w (next_is tops p d.piece.next z) (placed p d.piece.next z
          o.2 (holds_left c d.piece.next w.piece (body_piece w.piece.next w.instrs) body))))

    placed_sites : (ts : List SiteTerm) (at : At) → SitesSlotted tops ts
        → Holds c at (write_sites tops at ts).piece → Placed at (write_sites tops at ts).piece
    placed_sites [] at o h = record { levels = tt; blocks = tt }
    placed_sites (u ∷ us) at o h =
        let ds = term.definitions u.defs in
        let a = site_piece tops at ds u.body in
        let v = write_sites tops a.next us in
        let bs = new_channels [] ds in
        let at1 = sat tops at ds u.body in
        let d = sd tops at ds u.body in
        let w = sw tops at ds u.body in
        let front = sfront tops at ds u.body in
        let own = level_of tops at at.block None [] [] ds None in
        let here = holds_left c at a v.piece h in
        let head = holds_left c at front (join d.piece (with_body tops w)) here in
        let next1 = front_next tops at ds u.body in
        let back = holds_right c at front (join d.piece (with_body tops w)) next1 here in
        let defs = holds_left c at1 d.piece (with_body tops w) back in
        let next2 = defs_next tops at ds u.body in
        let body = holds_right c at1 d.piece (with_body tops w) next2 back in
        let next = site_next tops at ds u.body in
        let within : at.block < length c.blocks =
        slice_get_within c.blocks at.block
        (record { levels = at.level ∷ d.places; names = length (order ds) }) head.blocks.0 in
        let mine = block_placed at [] ds at.level d own head.levels.0 refl refl refl
        (places_from ds at1 at.block 0 at.level bs [] bs defs)
        (places_named ds at1 at.block 0 at.level bs [] bs o.0.0 defs) in
        placed_joined at a.next a v.piece next
        (placed_joined at at1 front (join d.piece (with_body tops w)) next1
        (record { levels = (record { block = within; body = tt }, tt); blocks = (mine, tt) })
        (placed_joined at1 d.piece.next d.piece (with_body tops w) next2
        (placed_defs ds at1 at.block 0 at.level bs [] bs within o.0.0 defs)
        (with_body_placed d.piece.next w (next_is tops u.body d.piece.next [])
        (placed u.body d.piece.next []
        o.0.1 (holds_left c d.piece.next w.piece (body_piece w.piece.next w.instrs) body)))))
        (placed_sites us a.next o.1 (holds_right c at a v.piece next h))

pub code_placed : (p : ProgramTerms) → SitesSlotted (site_names p.sites) p.sites
    → Each (LevelPlaced (code_of p)) (code_of p).levels
    × ((b : ℕ) (block : Block) → slice_get (code_of p).blocks b ≡ Some block
    → IsBlockAt (code_of p) b block)
code_placed p o =
    let tops = site_names p.sites in
    let zero_at : At = record { level = 0; guard = 0; block = 0; body = 0 } in
    let w = write_sites tops zero_at p.sites in
    let holds : Holds (code_of p) zero_at w.piece = record {
      levels = has_all w.piece.levels;
      guards = has_all w.piece.guards;
      blocks = has_all w.piece.blocks;
      bodies = has_all w.piece.bodies;
    } in
    let all = placed_sites (code_of p) tops p.sites zero_at o holds in (
      all.levels,
      λ b block e. let at : 0 + b ≡ b = omega arith in subst (λ k. IsBlockAt (code_of p) k block) at
          (block_found (code_of p) 0 w.piece.blocks all.blocks b block e),
    )
