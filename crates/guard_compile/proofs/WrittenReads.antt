-- What is written reads as the process.
use Rattle.std.proofs.Common.{◌≡◌, ℕ, ◌+◌, List, [], ◌∷◌, ◌++◌, length, Some, None, refl, sym, ap}
use Rattle.std.proofs.Common.{◌∙◌, subst, arith, append_assoc, length-append}
use Rattle.std.specs.Prelude.{slice_get}
use Rattle.chem_model.specs.Process.{Process, Msg, Par, Def, Go, Fail, Halt, Processes, none}
use Rattle.chem_model.specs.Process.{one_more, Definition, Rule, Place, Definitions, no_definition}
use Rattle.chem_model.specs.Process.{and_also}
use Rattle.chem_model.specs.Binders.{binder_of, params_of}
use Rattle.chem_model.specs.Fill.{Naming}
use Rattle.chem_laws.proofs.Lists.{append_nil}
use Rattle.env_store.specs.declared.code.Instr.{Instr}
use Rattle.env_store.specs.declared.code.Instr.TheVariants as instr
use Rattle.env_store.specs.declared.code.Guard.{Guard}
use Rattle.env_store.specs.declared.code.Level.{Level}
use Rattle.env_store.specs.declared.code.Block.{Block}
use Rattle.env_store.specs.Layout.{rules_in, new_channels, place_order, place_in, order, LevelTerm}
use Rattle.env_store.specs.Layout.{level_term, levels_of, levels_of_all, levels_of_defs}
use Rattle.env_store.specs.Layout.{levels_of_def}
use Rattle.env_store.specs.CodeParts.{CodeParts}
use Rattle.env_store.specs.Reading.{ReadsPlaces, Reads, ReadsAll, ReadsBody, ReadsRules}
use Rattle.env_store.specs.Reading.{ReadsProcess}
use Rattle.guard_compile.specs.declared.write.At.{At}
use Rattle.guard_compile.specs.declared.write.Piece.{Piece}
use Rattle.guard_compile.specs.declared.write.Defined.{Defined}
use Rattle.guard_compile.specs.Written.{no_piece, join, body_piece, above, level_piece}
use Rattle.guard_compile.specs.Written.{block_piece, behind, inside, Wrote, slot_or}
use Rattle.guard_compile.specs.Written.{slots_or, with_body, guard_of, level_of, write}
use Rattle.guard_compile.specs.Written.{write_all, write_defs, write_def}
use Rattle.guard_compile.proofs.From.{after, HasFrom, has_left, has_right, Holds, holds_left}
use Rattle.guard_compile.proofs.From.{holds_right}
use Rattle.guard_compile.proofs.Masked.{mask_is}
use Rattle.guard_compile.proofs.Slotted.{Slotted, AllSlotted, DefsSlotted, DefSlotted, slot_is}
use Rattle.guard_compile.proofs.Slotted.{slots_are, channels_are}

-- ---- the numbers behind pieces

pub none_after : (at : At) → at ≡ after at (no_piece at)
none_after at =
    let level : at.level ≡ at.level + 0 = omega arith in
    let guard : at.guard ≡ at.guard + 0 = omega arith in
    let block : at.block ≡ at.block + 0 = omega arith in
    let body : at.body ≡ at.body + 0 = omega arith in
    λ i. record { level = level i; guard = guard i; block = block i; body = body i }

pub after_join : (at : At) (a b : Piece) → a.next ≡ after at a → b.next ≡ after a.next b
    → (join a b).next ≡ after at (join a b)
after_join at a b e f =
    let level : (at.level + length a.levels) + length b.levels
    ≡ at.level + length (a.levels ++ b.levels) = omega (arith, length-append a.levels b.levels) in
    let guard : (at.guard + length a.guards) + length b.guards
    ≡ at.guard + length (a.guards ++ b.guards) = omega (arith, length-append a.guards b.guards) in
    let block : (at.block + length a.blocks) + length b.blocks
    ≡ at.block + length (a.blocks ++ b.blocks) = omega (arith, length-append a.blocks b.blocks) in
    let body : (at.body + length a.bodies) + length b.bodies
    ≡ at.body + length (a.bodies ++ b.bodies) = omega (arith, length-append a.bodies b.bodies) in
    f ∙ ap (λ n. after n b) e
    ∙ (λ i. record { level = level i; guard = guard i; block = block i; body = body i })

pub body_after : (at : At) (is : List Instr) → above at ≡ after at (body_piece at is)
body_after at is =
    let level : at.level ≡ at.level + 0 = omega arith in
    let guard : at.guard ≡ at.guard + 0 = omega arith in
    let block : at.block ≡ at.block + 0 = omega arith in
    λ i. record { level = level i; guard = guard i; block = block i; body = at.body + 1 }

pub level_after : (at : At) (n : ℕ) (v : Level) (gs : List Guard) → length gs ≡ n
    → behind at n ≡ after at (level_piece at n v gs)
level_after at n v gs e =
    let block : at.block ≡ at.block + 0 = omega arith in
    let body : at.body ≡ at.body + 0 = omega arith in
    λ i. record { level = at.level + 1; guard = at.guard + sym e i; block = block i; body = body i }

pub block_after : (at : At) (n : ℕ) (v : Level) (gs : List Guard) (b : Block) → length gs ≡ n
    → behind (inside at) n ≡ after at (block_piece at n v gs b)
block_after at n v gs b e =
    let body : at.body ≡ at.body + 0 = omega arith in
    λ i.
    record { level = at.level + 1; guard = at.guard + sym e i; block = at.block + 1; body = body i }

module _ (tops : Naming) where
  -- ---- as many levels as the source opens, and as many guards as rules

  mutual
    pub levels_long : (p : Process) (at : At) (y : List ℕ)
        → length (write tops at y p).piece.levels ≡ length (levels_of y p)
    levels_long (Msg x vs) at y = refl
    levels_long (Par ps) at y = levels_long_all ps at y
    levels_long (Def ds p) at y =
        let z = y ++ order ds in
        let at1 = behind (inside at) (rules_in ds) in
        let d =
        write_defs tops at1 at.block 0 at.level (new_channels [] ds) z (new_channels [] ds) ds in
        let w = write tops d.piece.next z p in
        omega (
          arith,
          levels_long_defs ds at1 at.block 0 at.level (new_channels [] ds) z (new_channels [] ds),
          levels_long p d.piece.next z,
          length-append d.piece.levels w.piece.levels,
          length-append (levels_of_defs z (new_channels [] ds) ds) (levels_of z p),
        )
    levels_long (Go b k) at y = refl
    levels_long (Fail b k) at y = refl
    levels_long Halt at y = refl

    pub levels_long_all : (ps : Processes) (at : At) (y : List ℕ)
        → length (write_all tops at y ps).piece.levels ≡ length (levels_of_all y ps)
    levels_long_all none at y = refl
    levels_long_all (one_more p ps) at y =
        let w = write tops at y p in
        let v = write_all tops w.piece.next y ps in
        omega (
          arith,
          levels_long p at y,
          levels_long_all ps w.piece.next y,
          length-append w.piece.levels v.piece.levels,
          length-append (levels_of y p) (levels_of_all y ps),
        )

    pub levels_long_defs : (ds : Definitions) (at : At) (b i n : ℕ) (channels z acc : List ℕ)
        → length (write_defs tops at b i n channels z acc ds).piece.levels
        ≡ length (levels_of_defs z acc ds)
    levels_long_defs no_definition at b i n channels z acc = refl
    levels_long_defs (and_also d ds) at b i n channels z acc =
        let a = write_def tops at b i n channels z acc d in
        let e = write_defs tops a.piece.next b (i + length a.places) n channels z
        (acc ++ place_in acc d) ds in
        omega (
          arith,
          levels_long_def d at b i n channels z acc,
          levels_long_defs ds a.piece.next b (i + length a.places) n channels z
              (acc ++ place_in acc d),
          length-append a.piece.levels e.piece.levels,
          length-append (levels_of_def z acc d) (levels_of_defs z (acc ++ place_in acc d) ds),
        )

    pub levels_long_def : (d : Definition) (at : At) (b i n : ℕ) (channels z acc : List ℕ)
        → length (write_def tops at b i n channels z acc d).piece.levels
        ≡ length (levels_of_def z acc d)
    levels_long_def (Rule ps p) at b i n channels z acc =
        let w = write tops at (z ++ params_of ps) p in
        omega (arith, levels_long p at (z ++ params_of ps), length-append w.piece.levels [])
    levels_long_def (Place x es p) at b i n channels z acc =
        let at1 = behind at (rules_in es) in
        let own = new_channels (acc ++ binder_of x) es in
        let d = write_defs tops at1 b 0 at.level own z (acc ++ place_order acc x es) es in
        let w = write tops d.piece.next z p in
        omega (
          arith,
          levels_long_defs es at1 b 0 at.level own z (acc ++ place_order acc x es),
          levels_long p d.piece.next z,
          length-append d.piece.levels (w.piece.levels ++ []),
          length-append w.piece.levels [],
          length-append (levels_of_defs z (acc ++ place_order acc x es) es) (levels_of z p),
        )

  pub guards_long : (ds : Definitions) (at : At) (b i n : ℕ) (channels z acc : List ℕ)
      → length (write_defs tops at b i n channels z acc ds).guards ≡ rules_in ds
  guards_long no_definition at b i n channels z acc = refl
  guards_long (and_also (Rule ps p) ds) at b i n channels z acc =
      let a = write_def tops at b i n channels z acc (Rule ps p) in
      omega (arith, guards_long ds a.piece.next b (i + length a.places) n channels z (acc ++ []))
  guards_long (and_also (Place x es p) ds) at b i n channels z acc =
      let a = write_def tops at b i n channels z acc (Place x es p) in
      guards_long ds a.piece.next b (i + length a.places) n channels z
      (acc ++ place_in acc (Place x es p))

  -- ---- the next numbers are those behind what is written

  mutual
    pub next_is : (p : Process) (at : At) (y : List ℕ)
        → (write tops at y p).piece.next ≡ after at (write tops at y p).piece
    next_is (Msg x vs) at y = none_after at
    next_is (Par ps) at y = next_is_all ps at y
    next_is (Def ds p) at y =
        let z = y ++ order ds in
        let at1 = behind (inside at) (rules_in ds) in
        let d =
        write_defs tops at1 at.block 0 at.level (new_channels [] ds) z (new_channels [] ds) ds in
        let w = write tops d.piece.next z p in
        let front = block_piece at (rules_in ds) (level_of tops at at.block None z [] ds None)
        d.guards (record { levels = at.level ∷ d.places; names = length (order ds) }) in
        after_join at front (join d.piece w.piece)
        (block_after at (rules_in ds) (level_of tops at at.block None z [] ds None)
        d.guards (record { levels = at.level ∷ d.places; names = length (order ds) })
        (guards_long ds at1 at.block 0 at.level (new_channels [] ds) z (new_channels [] ds)))
        (after_join at1 d.piece w.piece
        (next_is_defs ds at1 at.block 0 at.level (new_channels [] ds) z (new_channels [] ds))
        (next_is p d.piece.next z))
    next_is (Go b k) at y = none_after at
    next_is (Fail b k) at y = none_after at
    next_is Halt at y = none_after at

    pub next_is_all : (ps : Processes) (at : At) (y : List ℕ)
        → (write_all tops at y ps).piece.next ≡ after at (write_all tops at y ps).piece
    next_is_all none at y = none_after at
    next_is_all (one_more p ps) at y =
        let w = write tops at y p in
        let v = write_all tops w.piece.next y ps in
        after_join at w.piece v.piece (next_is p at y) (next_is_all ps w.piece.next y)

    pub next_is_defs : (ds : Definitions) (at : At) (b i n : ℕ) (channels z acc : List ℕ)
        → (write_defs tops at b i n channels z acc ds).piece.next
        ≡ after at (write_defs tops at b i n channels z acc ds).piece
    next_is_defs no_definition at b i n channels z acc = none_after at
    next_is_defs (and_also d ds) at b i n channels z acc =
        let a = write_def tops at b i n channels z acc d in
        let e = write_defs tops a.piece.next b (i + length a.places) n channels z
        (acc ++ place_in acc d) ds in
        after_join at a.piece e.piece (next_is_def d at b i n channels z acc)
        (next_is_defs ds a.piece.next b (i + length a.places) n channels z (acc ++ place_in acc d))

    pub next_is_def : (d : Definition) (at : At) (b i n : ℕ) (channels z acc : List ℕ)
        → (write_def tops at b i n channels z acc d).piece.next
        ≡ after at (write_def tops at b i n channels z acc d).piece
    next_is_def (Rule ps p) at b i n channels z acc =
        let w = write tops at (z ++ params_of ps) p in
        after_join at w.piece (body_piece w.piece.next w.instrs) (next_is p at (z ++ params_of ps))
        (body_after w.piece.next w.instrs)
    next_is_def (Place x es p) at b i n channels z acc =
        let at1 = behind at (rules_in es) in
        let own = new_channels (acc ++ binder_of x) es in
        let d = write_defs tops at1 b 0 at.level own z (acc ++ place_order acc x es) es in
        let w = write tops d.piece.next z p in
        let v = level_of tops at b (Some i) z (acc ++ binder_of x) es (Some w.piece.next.body) in
        after_join at (level_piece at (rules_in es) v d.guards) (join d.piece (with_body tops w))
        (level_after at (rules_in es) v
        d.guards (guards_long es at1 b 0 at.level own z (acc ++ place_order acc x es)))
        (after_join at1 d.piece (with_body tops w)
        (next_is_defs es at1 b 0 at.level own z (acc ++ place_order acc x es))
        (after_join d.piece.next w.piece (body_piece w.piece.next w.instrs)
        (next_is p d.piece.next z) (body_after w.piece.next w.instrs)))

module _ (tops : Naming) (c : CodeParts) (table : List LevelTerm) where
  abbrev reads_at : List ℕ → Process → List Instr → List Instr → Type 0
  reads_at = Reads c table tops

  -- ---- the next level's number is the one behind the source's

  pub term_level : (p : Process) (at : At) (y : List ℕ)
      → at.level + length (levels_of y p) ≡ (write tops at y p).piece.next.level
  term_level p at y = ap (λ n. at.level + n) (sym (levels_long tops p at y))
      ∙ ap (λ (n : At). n.level) (sym (next_is tops p at y))

  pub defs_level : (ds : Definitions) (at : At) (b i n : ℕ) (channels z acc : List ℕ)
      → at.level + length (levels_of_defs z acc ds)
      ≡ (write_defs tops at b i n channels z acc ds).piece.next.level
  defs_level ds at b i n channels z acc =
      ap (λ n. at.level + n) (sym (levels_long_defs tops ds at b i n channels z acc))
      ∙ ap (λ (n : At). n.level) (sym (next_is_defs tops ds at b i n channels z acc))

  def_level : (d : Definition) (at : At) (b i n : ℕ) (channels z acc : List ℕ)
      → at.level + length (levels_of_def z acc d)
      ≡ (write_def tops at b i n channels z acc d).piece.next.level
  def_level d at b i n channels z acc =
      ap (λ n. at.level + n) (sym (levels_long_def tops d at b i n channels z acc))
      ∙ ap (λ (n : At). n.level) (sym (next_is_def tops d at b i n channels z acc))

  -- ---- the parts of a `def`

  module _ (at : At) (y : List ℕ) (ds : Definitions) (p : Process)
      (h : Holds c at (write tops at y (Def ds p)).piece)
      (t : HasFrom table at.level (levels_of y (Def ds p))) where
    abbrev dz : List ℕ
    dz = y ++ order ds

    abbrev dn : List ℕ
    dn = new_channels [] ds

    abbrev dat : At
    dat = behind (inside at) (rules_in ds)

    abbrev dd : Defined
    dd = write_defs tops dat at.block 0 at.level dn dz dn ds

    abbrev dw : Wrote
    dw = write tops dd.piece.next dz p

    abbrev dblock : Block
    dblock = record { levels = at.level ∷ dd.places; names = length (order ds) }

    abbrev dfront : Piece
    dfront =
        block_piece at (rules_in ds) (level_of tops at at.block None dz [] ds None) dd.guards dblock

    def_front : Holds c at dfront
    def_front = holds_left c at dfront (join dd.piece dw.piece) h

    def_back : Holds c dat (join dd.piece dw.piece)
    def_back = holds_right c at dfront (join dd.piece dw.piece)
        (block_after at (rules_in ds) (level_of tops at at.block None dz [] ds None)
        dd.guards dblock (guards_long tops ds dat at.block 0 at.level dn dz dn)) h

    def_defs : Holds c dat dd.piece
    def_defs = holds_left c dat dd.piece dw.piece def_back

    def_body : Holds c dd.piece.next dw.piece
    def_body = holds_right c dat
        dd.piece dw.piece (next_is_defs tops ds dat at.block 0 at.level dn dz dn) def_back

    def_block : slice_get c.blocks at.block ≡ Some dblock
    def_block = def_front.blocks.0

    def_table : HasFrom table (at.level + 1) (levels_of_defs dz dn ds)
    def_table = has_left table (at.level + 1) (levels_of_defs dz dn ds) (levels_of dz p) t.1

    def_rest : HasFrom table dd.piece.next.level (levels_of dz p)
    def_rest =
        let long : (at.level + 1) + length (levels_of_defs dz dn ds) ≡ dd.piece.next.level =
        defs_level ds dat at.block 0 at.level dn dz dn in
        subst (λ k. HasFrom table k (levels_of dz p)) long
        (has_right table (at.level + 1) (levels_of_defs dz dn ds) (levels_of dz p) t.1)

  -- the numbers of the levels of a block's places
  pub places_read : (ds : Definitions) (at : At) (b i n : ℕ) (channels z acc : List ℕ)
      → DefsSlotted tops z channels acc ds → HasFrom table at.level (levels_of_defs z acc ds)
      → ReadsPlaces c table tops z acc ds (write_defs tops at b i n channels z acc ds).places
  places_read no_definition at b i n channels z acc h t = refl
  places_read (and_also (Rule ps p) ds) at b i n channels z acc h t =
      let a = write_def tops at b i n channels z acc (Rule ps p) in
      let v = write_defs tops a.piece.next b (i + length a.places) n channels z (acc ++ []) ds in
      let long : at.level + length (levels_of (z ++ params_of ps) p) ≡ a.piece.next.level =
      def_level (Rule ps p) at b i n channels z acc in (
        v.places,
        refl,
        places_read ds a.piece.next b (i + length a.places) n channels z (acc ++ []) h.1
            (subst (λ j. HasFrom table j (levels_of_defs z (acc ++ []) ds)) long (has_right table
            at.level (levels_of (z ++ params_of ps) p) (levels_of_defs z (acc ++ []) ds) t)),
      )
  places_read (and_also (Place x es p) ds) at b i n channels z acc h t =
      let d = Place x es p in
      let a = write_def tops at b i n channels z acc d in
      let v = write_defs tops a.piece.next b (i + length a.places) n channels z
      (acc ++ place_in acc d) ds in
      let long : at.level + length (levels_of_def z acc d) ≡ a.piece.next.level =
      def_level d at b i n channels z acc in (
        v.places,
        (at.level, refl, t.0, h.0.0),
        places_read ds a.piece.next b (i + length a.places) n channels z (acc ++ place_in acc d) h.1
            (subst (λ j. HasFrom table j (levels_of_defs z (acc ++ place_in acc d) ds)) long
            (has_right table at.level (levels_of_def z acc d)
            (levels_of_defs z (acc ++ place_in acc d) ds) t)),
      )

  mutual
    pub reads : (p : Process) (at : At) (y : List ℕ) (rest : List Instr) → Slotted tops y p
        → Holds c at (write tops at y p).piece → HasFrom table at.level (levels_of y p)
        → reads_at y p ((write tops at y p).instrs ++ rest) rest
    reads (Msg x vs) at y rest o h t = record {
      on = slot_or tops y x;
      args = slots_or tops y vs;
      sends = refl;
      on_is = slot_is tops y x o.0;
      args_are = slots_are tops y vs o.1;
    }
    reads (Par ps) at y rest o h t = reads_all ps at y rest o h t
    reads (Def ds p) at y rest o h t =
        let z = y ++ order ds in
        let bs = new_channels [] ds in
        let at1 = behind (inside at) (rules_in ds) in
        let d = dd at y ds p h t in
        let w = dw at y ds p h t in
        let leave = instr.Leave (length (order ds)) in
        let inner = reads p d.piece.next z (leave ∷ rest) o.2 (def_body at y ds p h t)
        (def_rest at y ds p h t) in (
          w.instrs ++ leave ∷ rest,
          record {
            number = at.block;
            block = dblock at y ds p h t;
            is_there = def_block at y ds p h t;
            enters = ap (λ is. instr.Enter at.block ∷ is) (append_assoc w.instrs (leave ∷ []) rest);
            reads = record {
              names = refl;
              own = at.level;
              places = d.places;
              levels_are = refl;
              own_is = t.0;
              places_are =
                  places_read ds at1 at.block 0 at.level bs z bs o.1 (def_table at y ds p h t);
            };
            channels = o.3;
            places = o.0;
          },
          inner,
        )
    reads (Go b k) at y rest o h t = record {
      target = slot_or tops y b;
      cont = slot_or tops y k;
      asks = refl;
      target_is = slot_is tops y b o.0;
      cont_is = slot_is tops y k o.1;
    }
    reads (Fail b k) at y rest o h t = record {
      target = slot_or tops y b;
      cont = slot_or tops y k;
      asks = refl;
      target_is = slot_is tops y b o.0;
      cont_is = slot_is tops y k o.1;
    }
    reads Halt at y rest o h t = refl

    pub reads_all : (ps : Processes) (at : At) (y : List ℕ) (rest : List Instr)
        → AllSlotted tops y ps → Holds c at (write_all tops at y ps).piece
        → HasFrom table at.level (levels_of_all y ps)
        → ReadsAll c table tops y ps ((write_all tops at y ps).instrs ++ rest) rest
    reads_all none at y rest o h t = refl
    reads_all (one_more p ps) at y rest o h t =
        let w = write tops at y p in
        let v = write_all tops w.piece.next y ps in
        let long : at.level + length (levels_of y p) ≡ w.piece.next.level = term_level p at y in
        let first = reads p at y (v.instrs ++ rest) o.0 (holds_left c at w.piece v.piece h)
        (has_left table at.level (levels_of y p) (levels_of_all y ps) t) in
        let others = reads_all ps w.piece.next y rest
        o.1 (holds_right c at w.piece v.piece (next_is tops p at y) h)
        (subst (λ k. HasFrom table k (levels_of_all y ps)) long
        (has_right table at.level (levels_of y p) (levels_of_all y ps) t)) in (
          v.instrs ++ rest,
          subst (λ is. reads_at y p is (v.instrs ++ rest))
              (sym (append_assoc w.instrs v.instrs rest)) first,
          others,
        )

  -- ---- bodies

  pub body_reads : (p : Process) (at : At) (y : List ℕ) → Slotted tops y p
      → Holds c at (with_body tops (write tops at y p)) → HasFrom table at.level (levels_of y p)
      → ReadsBody c table tops y p ((write tops at y p).piece.next.body)
  body_reads p at y o h t =
      let w = write tops at y p in
      record {
        instrs = w.instrs;
        is_there = (holds_right c at w.piece (body_piece w.piece.next w.instrs)
            (next_is tops p at y) h).bodies.0;
        reads = subst (λ is. reads_at y p is []) (append_nil w.instrs)
            (reads p at y [] o (holds_left c at w.piece (body_piece w.piece.next w.instrs) h) t);
      }

  -- the guards of a level's rules
  pub rules_read :
      (t : LevelTerm) (ds : Definitions) (at : At) (b i n : ℕ) (acc : List ℕ) (first : ℕ)
      → DefsSlotted tops t.layout t.channels acc ds
      → Holds c at (write_defs tops at b i n t.channels t.layout acc ds).piece
      → HasFrom table at.level (levels_of_defs t.layout acc ds)
      → HasFrom c.guards first (write_defs tops at b i n t.channels t.layout acc ds).guards
      → ReadsRules c table tops n t first ds
  rules_read t no_definition at b i n acc first o h s g = tt
  rules_read t (and_also (Rule ps p) ds) at b i n acc first o h s g =
      let y = t.layout ++ params_of ps in
      let w = write tops at y p in
      let a = write_def tops at b i n t.channels t.layout acc (Rule ps p) in
      let v =
      write_defs tops a.piece.next b (i + length a.places) n t.channels t.layout (acc ++ []) ds in
      let long : at.level + length (levels_of y p) ≡ a.piece.next.level =
      def_level (Rule ps p) at b i n t.channels t.layout acc in
      let here =
      has_left table at.level (levels_of y p) (levels_of_defs t.layout (acc ++ []) ds) s in
      let others = subst (λ j. HasFrom table j (levels_of_defs t.layout (acc ++ []) ds)) long
      (has_right table at.level (levels_of y p) (levels_of_defs t.layout (acc ++ []) ds) s) in
      let guard = guard_of tops n t.channels ps p w in (
        (
          guard,
          g.0,
          record {
            level = refl;
            chans = channels_are t.channels ps o.0.0;
            mask = mask_is t.channels ps o.0.0;
            body = body_reads p at y o.0.1 (holds_left c at a.piece v.piece h) here;
            births = refl;
            sends = refl;
          },
        ),
        rules_read t ds a.piece.next b (i + length a.places) n (acc ++ []) (first + 1)
            o.1 (holds_right c at
            a.piece v.piece (next_is_def tops (Rule ps p) at b i n t.channels t.layout acc) h)
            others g.1,
      )
  rules_read t (and_also (Place x es p) ds) at b i n acc first o h s g =
      let d = Place x es p in
      let a = write_def tops at b i n t.channels t.layout acc d in
      let v = write_defs tops a.piece.next b (i + length a.places) n
      t.channels t.layout (acc ++ place_in acc d) ds in
      let long : at.level + length (levels_of_def t.layout acc d) ≡ a.piece.next.level =
      def_level d at b i n t.channels t.layout acc in
      let others = subst (λ j. HasFrom table j (levels_of_defs t.layout (acc ++ place_in acc d) ds))
      long (has_right table at.level (levels_of_def t.layout acc d)
      (levels_of_defs t.layout (acc ++ place_in acc d) ds) s) in
      rules_read t ds a.piece.next b (i + length a.places) n (acc ++ place_in acc d) first
      o.1 (holds_right c at a.piece v.piece (next_is_def tops d at b i n t.channels t.layout acc) h)
      others g

  -- ---- each level that is written reads as that of the source

  -- but for the number of its first guard
  pub record LevelReads (n : ℕ) (t : LevelTerm) : Type 0 where
    pub level : Level
    pub is_there : slice_get c.levels n ≡ Some level
    pub counts : level.counts ≡ t.counts
    pub depth : level.depth ≡ length t.layout
    pub guards : level.guards ≡ rules_in t.defs
    pub rules : ReadsRules c table tops n t level.first t.defs
    pub process : ReadsProcess c table tops t.layout t.process level.body

  abbrev pub LevelsRead : ℕ → List LevelTerm → Type 0
  LevelsRead n [] = Unit {0}
  LevelsRead n (t ∷ ts) = LevelReads n t × LevelsRead (n + 1) ts

  pub levels_joined : (n : ℕ) (ts us : List LevelTerm) → LevelsRead n ts
      → LevelsRead (n + length ts) us → LevelsRead n (ts ++ us)
  levels_joined n [] us h g =
      let at : n + length {A = LevelTerm} [] ≡ n = omega arith in
      subst (λ k. LevelsRead k us) at g
  levels_joined n (t ∷ ts) us h g =
      let at : n + length (t ∷ ts) ≡ (n + 1) + length ts = omega arith in
      (h.0, levels_joined (n + 1) ts us h.1 (subst (λ k. LevelsRead k us) at g))

  mutual
    pub levels_read : (p : Process) (at : At) (y : List ℕ) → Slotted tops y p
        → Holds c at (write tops at y p).piece → HasFrom table at.level (levels_of y p)
        → LevelsRead at.level (levels_of y p)
    levels_read (Msg x vs) at y o h t = tt
    levels_read (Par ps) at y o h t = levels_read_all ps at y o h t
    levels_read (Def ds p) at y o h t =
        let z = y ++ order ds in
        let bs = new_channels [] ds in
        let at1 = behind (inside at) (rules_in ds) in
        let d = dd at y ds p h t in
        let front = def_front at y ds p h t in
        let defs = def_defs at y ds p h t in
        let source = def_table at y ds p h t in
        let term = level_term z [] ds None in
        let long : d.piece.next.level ≡ (at.level + 1) + length (levels_of_defs z bs ds) =
        sym (defs_level ds at1 at.block 0 at.level bs z bs) in (
          record {
            level = level_of tops at at.block None z [] ds None;
            is_there = front.levels.0;
            counts = refl;
            depth = refl;
            guards = refl;
            rules =
                rules_read term ds at1 at.block 0 at.level bs at.guard o.1 defs source front.guards;
            process = refl;
          },
          levels_joined (at.level + 1) (levels_of_defs z bs ds) (levels_of z p)
              (levels_read_defs ds at1 at.block 0 at.level bs z bs o.1 defs source)
              (subst (λ k. LevelsRead k (levels_of z p)) long
              (levels_read p d.piece.next z o.2 (def_body at y ds p h t) (def_rest at y ds p h t))),
        )
    levels_read (Go b k) at y o h t = tt
    levels_read (Fail b k) at y o h t = tt
    levels_read Halt at y o h t = tt

    pub levels_read_all : (ps : Processes) (at : At) (y : List ℕ) → AllSlotted tops y ps
        → Holds c at (write_all tops at y ps).piece → HasFrom table at.level (levels_of_all y ps)
        → LevelsRead at.level (levels_of_all y ps)
    levels_read_all none at y o h t = tt
    levels_read_all (one_more p ps) at y o h t =
        let w = write tops at y p in
        let v = write_all tops w.piece.next y ps in
        let long : at.level + length (levels_of y p) ≡ w.piece.next.level = term_level p at y in
        let others = subst (λ k. HasFrom table k (levels_of_all y ps)) long
        (has_right table at.level (levels_of y p) (levels_of_all y ps) t) in
        levels_joined at.level (levels_of y p) (levels_of_all y ps)
        (levels_read p at y o.0 (holds_left c at w.piece v.piece h)
        (has_left table at.level (levels_of y p) (levels_of_all y ps) t))
        (subst (λ k. LevelsRead k (levels_of_all y ps)) (sym long) (levels_read_all ps
        w.piece.next y o.1 (holds_right c at w.piece v.piece (next_is tops p at y) h) others))

    pub levels_read_defs : (ds : Definitions) (at : At) (b i n : ℕ) (channels z acc : List ℕ)
        → DefsSlotted tops z channels acc ds
        → Holds c at (write_defs tops at b i n channels z acc ds).piece
        → HasFrom table at.level (levels_of_defs z acc ds)
        → LevelsRead at.level (levels_of_defs z acc ds)
    levels_read_defs no_definition at b i n channels z acc o h t = tt
    levels_read_defs (and_also d ds) at b i n channels z acc o h t =
        let a = write_def tops at b i n channels z acc d in
        let v = write_defs tops a.piece.next b (i + length a.places) n channels z
        (acc ++ place_in acc d) ds in
        let front = levels_of_def z acc d in
        let back = levels_of_defs z (acc ++ place_in acc d) ds in
        let long : at.level + length front ≡ a.piece.next.level =
        def_level d at b i n channels z acc in
        let others =
        subst (λ j. HasFrom table j back) long (has_right table at.level front back t) in
        levels_joined at.level front back (levels_read_def d at b i n channels z acc
        o.0 (holds_left c at a.piece v.piece h) (has_left table at.level front back t))
        (subst (λ j. LevelsRead j back) (sym long) (levels_read_defs ds a.piece.next b
        (i + length a.places) n channels z (acc ++ place_in acc d) o.1
        (holds_right c at a.piece v.piece (next_is_def tops d at b i n channels z acc) h) others))

    pub levels_read_def : (d : Definition) (at : At) (b i n : ℕ) (channels z acc : List ℕ)
        → DefSlotted tops z channels acc d
        → Holds c at (write_def tops at b i n channels z acc d).piece
        → HasFrom table at.level (levels_of_def z acc d)
        → LevelsRead at.level (levels_of_def z acc d)
    levels_read_def (Rule ps p) at b i n channels z acc o h t =
        let w = write tops at (z ++ params_of ps) p in
        levels_read p at (z ++ params_of ps)
        o.1 (holds_left c at w.piece (body_piece w.piece.next w.instrs) h) t
    levels_read_def (Place x es p) at b i n channels z acc o h t =
        let at1 = behind at (rules_in es) in
        let own = new_channels (acc ++ binder_of x) es in
        let acc' = acc ++ place_order acc x es in
        let d = write_defs tops at1 b 0 at.level own z acc' es in
        let at2 = d.piece.next in
        let w = write tops at2 z p in
        let v = level_of tops at b (Some i) z (acc ++ binder_of x) es (Some w.piece.next.body) in
        let term = level_term z (acc ++ binder_of x) es (Some p) in
        let front = levels_of_defs z acc' es in
        let back = levels_of z p in
        let head = level_piece at (rules_in es) v d.guards in
        let inner = holds_right c at head (join d.piece (with_body tops w))
        (level_after at (rules_in es) v d.guards (guards_long tops es at1 b 0 at.level own z acc'))
        h in
        let first = holds_left c at head (join d.piece (with_body tops w)) h in
        let defs = holds_left c at1 d.piece (with_body tops w) inner in
        let process = holds_right c at1 d.piece (with_body tops w)
        (next_is_defs tops es at1 b 0 at.level own z acc') inner in
        let source = has_left table (at.level + 1) front back t.1 in
        let long : (at.level + 1) + length front ≡ at2.level =
        defs_level es at1 b 0 at.level own z acc' in
        let rest =
        subst (λ j. HasFrom table j back) long (has_right table (at.level + 1) front back t.1) in (
          record {
            level = v;
            is_there = first.levels.0;
            counts = refl;
            depth = refl;
            guards = refl;
            rules = rules_read term es at1 b 0 at.level acc' at.guard o.1 defs source first.guards;
            process = (w.piece.next.body, refl, body_reads p at2 z o.2 process rest);
          },
          levels_joined (at.level + 1) front back
              (levels_read_defs es at1 b 0 at.level own z acc' o.1 defs source)
              (subst (λ j. LevelsRead j back) (sym long) (levels_read p at2 z
              o.2 (holds_left c at2 w.piece (body_piece w.piece.next w.instrs) process) rest)),
        )
