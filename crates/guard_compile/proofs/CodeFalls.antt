-- In the code of a program, the bodies of the places that a body opens have smaller numbers.
use Rattle.std.proofs.Common.{◌≡◌, ℕ, zero, suc, ◌+◌, ◌≤◌, List, [], ◌∷◌, ◌++◌, length, Option}
use Rattle.std.proofs.Common.{Some, None, sym, ap, subst, arith}
use Rattle.std.specs.Prelude.{slice_get}
use Rattle.chem_model.specs.declared.program.SiteTerm.{SiteTerm}
use Rattle.chem_model.specs.Process as term
use Rattle.chem_model.specs.Process.{Process, Msg, Par, Def, Go, Fail, Halt, Processes, none}
use Rattle.chem_model.specs.Process.{one_more, Definition, Rule, Place, Definitions, no_definition}
use Rattle.chem_model.specs.Process.{and_also}
use Rattle.chem_model.specs.ProgramFacts.{ProgramTerms}
use Rattle.chem_model.specs.Binders.{binder_of, params_of}
use Rattle.chem_model.specs.Fill.{Naming}
use Rattle.chem_model.specs.Opening.{site_names}
use Rattle.env_store.specs.declared.code.Instr.{Instr}
use Rattle.env_store.specs.declared.code.Instr.TheVariants as instr
use Rattle.env_store.specs.declared.code.Level.{Level}
use Rattle.env_store.specs.declared.code.Block.{Block}
use Rattle.env_store.specs.Layout.{rules_in, new_channels, place_order, place_in, order}
use Rattle.env_store.specs.CodeParts.{CodeParts}
use Rattle.env_store.specs.Running.{NumberedLevel, with_level, numbered_levels}
use Rattle.env_store.specs.CodeFacts.{IsBelow, AreBelow, IsBlockBelow, Falls, BodiesFall}
use Rattle.guard_compile.specs.declared.write.At.{At}
use Rattle.guard_compile.specs.Written.{join, behind, inside, body_piece, level_piece}
use Rattle.guard_compile.specs.Written.{block_piece, level_of, Wrote, with_body, write}
use Rattle.guard_compile.specs.Written.{write_all, write_defs, write_def, site_piece}
use Rattle.guard_compile.specs.Written.{write_sites, code_of}
use Rattle.guard_compile.proofs.From.{Holds, holds_left, holds_right}
use Rattle.guard_compile.proofs.WrittenReads.{block_after, level_after, next_is, next_is_all}
use Rattle.guard_compile.proofs.WrittenReads.{next_is_defs, next_is_def, guards_long}
use Rattle.guard_compile.proofs.CodeRead.{has_all, sat, sd, sw, sfront, front_next, defs_next}
use Rattle.guard_compile.proofs.CodeRead.{site_next}

-- ---- a larger bound, and instructions one after another

below_more : (n m : ℕ) → n ≤ m → (o : Option ℕ) → IsBelow n o → IsBelow m o
below_more n m le None h = tt
below_more n m le (Some j) h = omega arith

all_below_more : (n m : ℕ) → n ≤ m → (vs : List NumberedLevel) → AreBelow n vs → AreBelow m vs
all_below_more n m le [] h = tt
all_below_more n m le (v ∷ vs) h =
    (below_more n m le v.level.body h.0, all_below_more n m le vs h.1)

module _ (c : CodeParts) where
  block_below_more : (n m : ℕ) → n ≤ m → (o : Option Block) → IsBlockBelow c n o
      → IsBlockBelow c m o
  block_below_more n m le None h = tt
  block_below_more n m le (Some b) h = all_below_more n m le (numbered_levels c.levels b.levels) h

  falls_more : (n m : ℕ) → n ≤ m → (is : List Instr) → Falls c n is → Falls c m is
  falls_more n m le [] h = tt
  falls_more n m le (instr.Send on args ∷ is) h = falls_more n m le is h
  falls_more n m le (instr.Enter b ∷ is) h =
      (block_below_more n m le (slice_get c.blocks b) h.0, falls_more n m le is h.1)
  falls_more n m le (instr.Leave k ∷ is) h = falls_more n m le is h
  falls_more n m le (instr.Go b k ∷ is) h = falls_more n m le is h
  falls_more n m le (instr.Fail b k ∷ is) h = falls_more n m le is h
  falls_more n m le (instr.Halt ∷ is) h = falls_more n m le is h

  falls_joined : (n : ℕ) (is js : List Instr) → Falls c n is → Falls c n js → Falls c n (is ++ js)
  falls_joined n [] js h g = g
  falls_joined n (instr.Send on args ∷ is) js h g = falls_joined n is js h g
  falls_joined n (instr.Enter b ∷ is) js h g = (h.0, falls_joined n is js h.1 g)
  falls_joined n (instr.Leave k ∷ is) js h g = falls_joined n is js h g
  falls_joined n (instr.Go b k ∷ is) js h g = falls_joined n is js h g
  falls_joined n (instr.Fail b k ∷ is) js h g = falls_joined n is js h g
  falls_joined n (instr.Halt ∷ is) js h g = falls_joined n is js h g

  -- the bodies from the number n on
  abbrev FallFrom : ℕ → List (List Instr) → Type 0
  FallFrom n [] = Unit {0}
  FallFrom n (is ∷ iss) = Falls c n is × FallFrom (n + 1) iss

  from_joined : (n : ℕ) (xs ys : List (List Instr)) → FallFrom n xs → FallFrom (n + length xs) ys
      → FallFrom n (xs ++ ys)
  from_joined n [] ys h g =
      let at : n + length {A = List Instr} [] ≡ n = omega arith in
      subst (λ k. FallFrom k ys) at g
  from_joined n (x ∷ xs) ys h g =
      let at : n + length (x ∷ xs) ≡ (n + 1) + length xs = omega arith in
      (h.0, from_joined (n + 1) xs ys h.1 (subst (λ k. FallFrom k ys) at g))

  fall_found : (n : ℕ) (xs : List (List Instr)) → FallFrom n xs → (i : ℕ) (is : List Instr)
      → slice_get xs i ≡ Some is → Falls c (n + i) is
  fall_found n [] h i is e = cc
  fall_found n (x ∷ xs) h zero is e =
      let same : x ≡ is = cc in
      let at : n ≡ n + 0 = omega arith in
      subst (λ k. Falls c k is) at (subst (Falls c n) same h.0)
  fall_found n (x ∷ xs) h (suc i) is e =
      let at : (n + 1) + i ≡ n + suc i = omega arith in
      subst (λ k. Falls c k is) at (fall_found (n + 1) xs h.1 i is e)

  pub one_level : (n : ℕ) (ns : List ℕ) (v : Level) → slice_get c.levels n ≡ Some v
      → numbered_levels c.levels (n ∷ ns)
      ≡ record { number = n; level = v } ∷ numbered_levels c.levels ns
  one_level n ns v e = ap (λ o. with_level n o ++ numbered_levels c.levels ns) e

  module _ (tops : Naming) where
    -- numbers only rise
    rises : (p : Process) (at : At) (y : List ℕ) → at.body ≤ (write tops at y p).piece.next.body
    rises p at y = omega (arith, ap (λ (n : At). n.body) (next_is tops p at y))

    rises_defs : (ds : Definitions) (at : At) (b i n : ℕ) (channels z acc : List ℕ)
        → at.body ≤ (write_defs tops at b i n channels z acc ds).piece.next.body
    rises_defs ds at b i n channels z acc =
        omega (arith, ap (λ (q : At). q.body) (next_is_defs tops ds at b i n channels z acc))

    -- the bodies of a block's places come before the next number
    places_below : (ds : Definitions) (at : At) (b i n : ℕ) (channels z acc : List ℕ)
        → Holds c at (write_defs tops at b i n channels z acc ds).piece
        → AreBelow (write_defs tops at b i n channels z acc ds).piece.next.body
        (numbered_levels c.levels (write_defs tops at b i n channels z acc ds).places)
    places_below no_definition at b i n channels z acc h = tt
    places_below (and_also (Rule ps p) ds) at b i n channels z acc h =
        let a = write_def tops at b i n channels z acc (Rule ps p) in
        let v = write_defs tops a.piece.next b (i + length a.places) n channels z (acc ++ []) ds in
        places_below ds a.piece.next b (i + length a.places) n channels z (acc ++ [])
        (holds_right c at a.piece v.piece (next_is_def tops (Rule ps p) at b i n channels z acc) h)
    places_below (and_also (Place x es p) ds) at b i n channels z acc h =
        let d = Place x es p in
        let a = write_def tops at b i n channels z acc d in
        let v = write_defs tops a.piece.next b (i + length a.places) n channels z
        (acc ++ place_in acc d) ds in
        let at1 = behind at (rules_in es) in
        let e = write_defs tops at1 b 0 at.level (new_channels (acc ++ binder_of x) es) z
        (acc ++ place_order acc x es) es in
        let w = write tops e.piece.next z p in
        let own = level_of tops at b (Some i) z (acc ++ binder_of x) es (Some w.piece.next.body) in
        let first = holds_left c at a.piece v.piece h in
        let up =
        rises_defs ds a.piece.next b (i + length a.places) n channels z (acc ++ place_in acc d) in
        subst (AreBelow v.piece.next.body) (sym (one_level at.level v.places own first.levels.0)) (
          omega arith,
          places_below ds a.piece.next b (i + length a.places) n channels z (acc ++ place_in acc d)
              (holds_right c at a.piece v.piece (next_is_def tops d at b i n channels z acc) h),
        )

    with_body_falls : (at : At) (w : Wrote) → w.piece.next.body ≡ at.body + length w.piece.bodies
        → Falls c w.piece.next.body w.instrs × FallFrom at.body w.piece.bodies
        → FallFrom at.body (with_body tops w).bodies
    with_body_falls at w e h = from_joined at.body w.piece.bodies (w.instrs ∷ [])
        h.1 (subst (λ k. FallFrom k (w.instrs ∷ [])) e (h.0, tt))

    mutual
      falls : (p : Process) (at : At) (y : List ℕ) → Holds c at (write tops at y p).piece
          → Falls c (write tops at y p).piece.next.body (write tops at y p).instrs
          × FallFrom at.body (write tops at y p).piece.bodies
      falls (Msg x vs) at y h = (tt, tt)
      falls (Par ps) at y h = falls_all ps at y h
      falls (Def ds p) at y h =
          let z = y ++ order ds in
          let bs = new_channels [] ds in
          let at1 = behind (inside at) (rules_in ds) in
          let d = write_defs tops at1 at.block 0 at.level bs z bs ds in
          let w = write tops d.piece.next z p in
          let own = level_of tops at at.block None z [] ds None in
          let block : Block = record { levels = at.level ∷ d.places; names = length (order ds) } in
          let front = block_piece at (rules_in ds) own d.guards block in
          let head = holds_left c at front (join d.piece w.piece) h in
          let back = holds_right c at front (join d.piece w.piece) (block_after at (rules_in ds) own
          d.guards block (guards_long tops ds at1 at.block 0 at.level bs z bs)) h in
          let defs = holds_left c at1 d.piece w.piece back in
          let body = holds_right c at1
          d.piece w.piece (next_is_defs tops ds at1 at.block 0 at.level bs z bs) back in
          let inner = falls p d.piece.next z body in
          let up = rises p d.piece.next z in
          let places =
          all_below_more d.piece.next.body w.piece.next.body up (numbered_levels c.levels d.places)
          (places_below ds at1 at.block 0 at.level bs z bs defs) in
          let here : IsBlockBelow c w.piece.next.body (Some block) =
          subst (AreBelow w.piece.next.body) (sym (one_level at.level d.places own head.levels.0))
          (tt, places) in
          let long : d.piece.next.body ≡ at.body + length d.piece.bodies =
          ap (λ (q : At). q.body) (next_is_defs tops ds at1 at.block 0 at.level bs z bs) in (
            (
              subst (IsBlockBelow c w.piece.next.body) (sym head.blocks.0) here,
              falls_joined w.piece.next.body w.instrs (instr.Leave (length (order ds)) ∷ [])
                  inner.0 tt,
            ),
            from_joined at.body d.piece.bodies w.piece.bodies
                (falls_defs ds at1 at.block 0 at.level bs z bs defs)
                (subst (λ k. FallFrom k w.piece.bodies) long inner.1),
          )
      falls (Go b k) at y h = (tt, tt)
      falls (Fail b k) at y h = (tt, tt)
      falls Halt at y h = (tt, tt)

      falls_all : (ps : Processes) (at : At) (y : List ℕ)
          → Holds c at (write_all tops at y ps).piece
          → Falls c (write_all tops at y ps).piece.next.body (write_all tops at y ps).instrs
          × FallFrom at.body (write_all tops at y ps).piece.bodies
      falls_all none at y h = (tt, tt)
      falls_all (one_more p ps) at y h =
          let w = write tops at y p in
          let v = write_all tops w.piece.next y ps in
          let one = falls p at y (holds_left c at w.piece v.piece h) in
          let others =
          falls_all ps w.piece.next y (holds_right c at w.piece v.piece (next_is tops p at y) h) in
          let up : w.piece.next.body ≤ v.piece.next.body =
          omega (arith, ap (λ (q : At). q.body) (next_is_all tops ps w.piece.next y)) in
          let long : w.piece.next.body ≡ at.body + length w.piece.bodies =
          ap (λ (q : At). q.body) (next_is tops p at y) in (
            falls_joined v.piece.next.body w.instrs v.instrs
                (falls_more w.piece.next.body v.piece.next.body up w.instrs one.0) others.0,
            from_joined at.body w.piece.bodies v.piece.bodies one.1
                (subst (λ k. FallFrom k v.piece.bodies) long others.1),
          )

      falls_defs : (ds : Definitions) (at : At) (b i n : ℕ) (channels z acc : List ℕ)
          → Holds c at (write_defs tops at b i n channels z acc ds).piece
          → FallFrom at.body (write_defs tops at b i n channels z acc ds).piece.bodies
      falls_defs no_definition at b i n channels z acc h = tt
      falls_defs (and_also d ds) at b i n channels z acc h =
          let a = write_def tops at b i n channels z acc d in
          let v = write_defs tops a.piece.next b (i + length a.places) n channels z
          (acc ++ place_in acc d) ds in
          let rest =
          falls_defs ds a.piece.next b (i + length a.places) n channels z (acc ++ place_in acc d)
          (holds_right c at a.piece v.piece (next_is_def tops d at b i n channels z acc) h) in
          let long : a.piece.next.body ≡ at.body + length a.piece.bodies =
          ap (λ (q : At). q.body) (next_is_def tops d at b i n channels z acc) in
          from_joined at.body a.piece.bodies v.piece.bodies
          (falls_def d at b i n channels z acc (holds_left c at a.piece v.piece h))
          (subst (λ k. FallFrom k v.piece.bodies) long rest)

      falls_def : (d : Definition) (at : At) (b i n : ℕ) (channels z acc : List ℕ)
          → Holds c at (write_def tops at b i n channels z acc d).piece
          → FallFrom at.body (write_def tops at b i n channels z acc d).piece.bodies
      falls_def (Rule ps p) at b i n channels z acc h =
          let y = z ++ params_of ps in
          let w = write tops at y p in
          with_body_falls at w (ap (λ (q : At). q.body) (next_is tops p at y))
          (falls p at y (holds_left c at w.piece (body_piece w.piece.next w.instrs) h))
      falls_def (Place x es p) at b i n channels z acc h =
          let at1 = behind at (rules_in es) in
          let own = new_channels (acc ++ binder_of x) es in
          let acc' = acc ++ place_order acc x es in
          let d = write_defs tops at1 b 0 at.level own z acc' es in
          let w = write tops d.piece.next z p in
          let v = level_of tops at b (Some i) z (acc ++ binder_of x) es (Some w.piece.next.body) in
          let head = level_piece at (rules_in es) v d.guards in
          let inner = holds_right c at head (join d.piece (with_body tops w)) (level_after at
          (rules_in es) v d.guards (guards_long tops es at1 b 0 at.level own z acc')) h in
          let body = holds_right c at1 d.piece (with_body tops w)
          (next_is_defs tops es at1 b 0 at.level own z acc') inner in
          let long : d.piece.next.body ≡ at.body + length d.piece.bodies =
          ap (λ (q : At). q.body) (next_is_defs tops es at1 b 0 at.level own z acc') in
          let last = with_body_falls d.piece.next w
          (ap (λ (q : At). q.body) (next_is tops p d.piece.next z)) (falls p d.piece.next z
          (holds_left c d.piece.next w.piece (body_piece w.piece.next w.instrs) body)) in
          from_joined at.body d.piece.bodies (with_body tops w).bodies (falls_defs es at1 b 0
          at.level own z acc' (holds_left c at1 d.piece (with_body tops w) inner))
          (subst (λ k. FallFrom k (with_body tops w).bodies) long last)

    falls_sites : (ts : List SiteTerm) (at : At) → Holds c at (write_sites tops at ts).piece
        → FallFrom at.body (write_sites tops at ts).piece.bodies
    falls_sites [] at h = tt
    falls_sites (u ∷ us) at h =
        let ds = term.definitions u.defs in
        let a = site_piece tops at ds u.body in
        let v = write_sites tops a.next us in
        let bs = new_channels [] ds in
        let d = sd tops at ds u.body in
        let w = sw tops at ds u.body in
        let front = sfront tops at ds u.body in
        let next = site_next tops at ds u.body in
        let back = holds_right c at front (join d.piece (with_body tops w))
        (front_next tops at ds u.body) (holds_left c at a v.piece h) in
        let body = holds_right c (sat tops at ds u.body) d.piece (with_body tops w)
        (defs_next tops at ds u.body) back in
        let last = with_body_falls d.piece.next w
        (ap (λ (q : At). q.body) (next_is tops u.body d.piece.next []))
        (falls u.body d.piece.next []
        (holds_left c d.piece.next w.piece (body_piece w.piece.next w.instrs) body)) in
        let long : d.piece.next.body ≡ at.body + length d.piece.bodies =
        ap (λ (q : At). q.body) (defs_next tops at ds u.body) in
        let defs = falls_defs ds (sat tops at ds u.body) at.block 0 at.level bs [] bs
        (holds_left c (sat tops at ds u.body) d.piece (with_body tops w) back) in
        from_joined at.body a.bodies v.piece.bodies
        (from_joined at.body d.piece.bodies (with_body tops w).bodies defs
        (subst (λ k. FallFrom k (with_body tops w).bodies) long last))
        (subst (λ k. FallFrom k v.piece.bodies) (ap (λ (q : At). q.body) next)
        (falls_sites us a.next (holds_right c at a v.piece next h)))

pub code_falls : (p : ProgramTerms) → BodiesFall (code_of p)
code_falls p j is e =
    let tops = site_names p.sites in
    let zero_at : At = record { level = 0; guard = 0; block = 0; body = 0 } in
    let w = write_sites tops zero_at p.sites in
    let holds : Holds (code_of p) zero_at w.piece = record {
      levels = has_all w.piece.levels;
      guards = has_all w.piece.guards;
      blocks = has_all w.piece.blocks;
      bodies = has_all w.piece.bodies;
    } in
    let at : 0 + j ≡ j = omega arith in
    subst (λ k. Falls (code_of p) k is) at (fall_found (code_of p) 0
    w.piece.bodies (falls_sites (code_of p) tops p.sites zero_at holds) j is e)
