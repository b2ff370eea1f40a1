-- What a block and a place add, put together from what their parts add.
use Rattle.std.proofs.Common.{◌≡◌, ℕ, List, [], ◌∷◌, ◌++◌, length, None, Result, Ok, Err}
use Rattle.std.proofs.Common.{OnOk, take, refl, sym, ap, ◌∙◌, subst, append_assoc}
use Rattle.chem_model.specs.declared.memory.Memory.{Memory}
use Rattle.chem_model.specs.declared.name.Ref.{Ref}
use Rattle.chem_model.specs.Process.{Process, Def, Definitions}
use Rattle.chem_model.specs.Binders.{binder_of}
use Rattle.chem_model.specs.Fill.{Naming}
use Rattle.env_store.specs.declared.code.Instr.{Instr}
use Rattle.env_store.specs.declared.code.Instr.TheVariants as instr
use Rattle.env_store.specs.Layout.{rules_in, new_channels, new_counts, place_order, places_order}
use Rattle.env_store.specs.Layout.{order}
use Rattle.guard_compile.specs.declared.layout.Opened.{Opened}
use Rattle.guard_compile.specs.declared.write.At.{At}
use Rattle.guard_compile.specs.declared.write.Piece.{Piece}
use Rattle.guard_compile.specs.declared.write.Defined.{Defined}
use Rattle.guard_compile.specs.declared.write.Writer.{Writer}
use Rattle.guard_compile.specs.Written.{Wrote, behind, inside, no_definitions, with_body, write}
use Rattle.guard_compile.specs.Written.{write_defs}
use Rattle.guard_compile.specs.inside.Appends.{Appends, AppendsDefined, AreBlockNames}
use Rattle.guard_compile.specs.inside.Appends.{whole_block, place_defs, place_process}
use Rattle.guard_compile.specs.inside.Appends.{in_place, Writes}

pub take_front : (xs ys : List ℕ) → take (length xs) (xs ++ ys) ≡ xs
take_front [] ys = refl
take_front (x ∷ xs) ys = ap (λ zs. x ∷ zs) (take_front xs ys)

-- the names of a block, cut back to those of its own channels
pub own_channels : (ds : Definitions) (o : Opened) (n : ℕ) (cut : List ℕ) → AreBlockNames ds o
    → n ≡ length o.channels → cut ≡ take n o.order → cut ≡ o.channels
own_channels ds o n cut names e f =
    f ∙ (λ i. take ((e ∙ ap length names.channels) i) (names.order i))
    ∙ take_front (new_channels [] ds) (places_order (new_channels [] ds) ds) ∙ sym names.channels

-- a block gets its names, where none has one
pub block_named :
    (o : Result (Unit {0}) Memory) (ds : Definitions) (old new : Opened) (mid : List ℕ)
    → old ≡ record { channels = []; counts = []; order = [] }
    → mid ≡ old.order ++ new_channels old.order ds
    → new.channels ≡ old.channels ++ new_channels old.order ds
    → new.counts ≡ old.counts ++ new_counts old.order ds
    → OnOk o (new.order ≡ mid ++ places_order mid ds) → OnOk o (AreBlockNames ds new)
block_named (Err m) ds old new mid e named channels counts h = tt
block_named (Ok u) ds old new mid e named channels counts h =
    let own : mid ≡ new_channels [] ds =
    named ∙ (λ i. (e i).order ++ new_channels (e i).order ds) in
    record {
      channels = channels ∙ (λ i. (e i).channels ++ new_channels (e i).order ds);
      counts = counts ∙ (λ i. (e i).counts ++ new_counts (e i).order ds);
      order = h ∙ (λ i. own i ++ places_order (own i) ds);
    }

-- what a `def` under the layout y works with: the names of its block, the layout within, and where
-- the definitions and then the process are written
pub record OpenedAs (at : At) (y : List ℕ) (ds : Definitions) (count : ℕ) (next : At)
    (channels counts names inner named : List ℕ) (depth many : ℕ) : Type 0 where
  pub count_is : count ≡ rules_in ds
  pub next_is : next ≡ behind (inside at) count
  pub channels_are : channels ≡ new_channels [] ds
  pub counts_are : counts ≡ new_counts [] ds
  pub names_are : names ≡ order ds
  pub inner_is : inner ≡ y ++ names
  pub named_is : named ≡ take (length channels) names
  pub depth_is : depth ≡ length inner
  pub many_is : many ≡ length names

module _ (tops : Naming) (at : At) (y : List ℕ) (ds : Definitions) (p : Process) (count : ℕ)
    (next : At) (channels counts names inner named : List ℕ) (depth many : ℕ)
    (start d : Defined)
    (g : start ≡ no_definitions next)
    (f : OpenedAs at y ds count next channels counts names inner named depth many)
    (a : AppendsDefined start d
    (write_defs tops start.piece.next at.block (length start.places) at.level channels inner named
    ds)) where
  abbrev z : List ℕ
  z = y ++ order ds

  inner_is : inner ≡ z
  inner_is = f.inner_is ∙ ap (λ bs. y ++ bs) f.names_are

  depth_is : depth ≡ length z
  depth_is = f.depth_is ∙ ap length inner_is

  many_is : many ≡ length (order ds)
  many_is = f.many_is ∙ ap length f.names_are

  named_is : named ≡ new_channels [] ds
  named_is = f.named_is ∙ (λ i. take (length (f.channels_are i)) (f.names_are i))
      ∙ take_front (new_channels [] ds) (places_order (new_channels [] ds) ds)

  abbrev at1 : At
  at1 = behind (inside at) (rules_in ds)

  next_is : next ≡ at1
  next_is = f.next_is ∙ ap (behind (inside at)) f.count_is

  abbrev D : Defined
  D = write_defs tops at1 at.block 0 at.level (new_channels [] ds) z (new_channels [] ds) ds

  abbrev W : Wrote
  W = write tops D.piece.next z p

  e : AppendsDefined (no_definitions at1) d D
  e = subst (λ (q : At × (List ℕ × (List ℕ × List ℕ))). AppendsDefined (no_definitions q.0) d
      (write_defs tops q.0 at.block 0 at.level q.1.0 q.1.1.0 q.1.1.1 ds))
      (λ i. (next_is i, (f.channels_are i, (inner_is i, named_is i))))
      (subst (λ (q : Defined). AppendsDefined q d
      (write_defs tops q.piece.next at.block (length q.places) at.level channels inner named ds))
      g a)

  pub block_written : (o : Result (Unit {0}) Memory) (old new within : Piece)
      → Appends d.piece within (write tops d.piece.next inner p).piece
      → OnOk o (Appends old new (whole_block at depth count many counts
      (record { guards = d.guards; places = d.places; piece = within })))
      → OnOk o (Appends old new (write tops at y (Def ds p)).piece)
  block_written (Err m) old new within b h = tt
  block_written (Ok u) old new within b h = (
    h.0 ∙ w.0,
    h.1 ∙ (λ i. old.levels ++ record {
      block = at.block;
      place = None;
      counts = f.counts_are i;
      depth = depth_is i;
      first = at.guard;
      guards = f.count_is i;
      body = None;
    } ∷ (w.1 ∙ ap (λ x. x ++ W.piece.levels) e.2.1) i),
    h.2 ∙ (λ i. old.guards ++ (e.0 i ++ (w.2 ∙ ap (λ x. x ++ W.piece.guards) e.2.2) i)),
    h.3
        ∙ (λ i. old.blocks ++ record { levels = at.level ∷ e.1 i; names = many_is i }
        ∷ (w.3 ∙ ap (λ x. x ++ W.piece.blocks) e.2.3) i),
    h.4 ∙ (λ i. old.bodies ++ (w.4 ∙ ap (λ x. x ++ W.piece.bodies) e.2.4) i),
  )
    where
      w : Appends d.piece within W.piece
      w = subst (λ (q : At × List ℕ). Appends d.piece within (write tops q.0 q.1 p).piece)
          (λ i. (e.2.0 i, inner_is i)) b

  -- the block's instructions
  pub block_instrs : (o : Result (Unit {0}) Memory) (old entered more left : List Instr)
      → entered ≡ old ++ instr.Enter at.block ∷ []
      → more ≡ entered ++ (write tops d.piece.next inner p).instrs
      → left ≡ more ++ instr.Leave many ∷ []
      → OnOk o (left ≡ old ++ (write tops at y (Def ds p)).instrs)
  block_instrs (Err m) old entered more left h1 h2 h3 = tt
  block_instrs (Ok u) old entered more left h1 h2 h3 =
      let enter = instr.Enter at.block in
      let leave = λ (n : ℕ). instr.Leave n ∷ [] in
      let within : (write tops d.piece.next inner p).instrs ≡ W.instrs =
      (λ i. (write tops (e.2.0 i) (inner_is i) p).instrs) in
      h3 ∙ (λ i. (h2 ∙ (λ j. h1 j ++ within j)) i ++ leave (many_is i))
      ∙ append_assoc (old ++ enter ∷ []) W.instrs (leave (length (order ds)))
      ∙ append_assoc old (enter ∷ []) (W.instrs ++ leave (length (order ds)))

-- a list that is cut back to what it was, where something was appended
pub cut_back : (o : Result (Unit {0}) Memory) (old more long cut : List ℕ) (count : ℕ)
    → count ≡ length old → long ≡ old ++ more → cut ≡ take count long → OnOk o (cut ≡ old)
cut_back (Err m) old more long cut count e f g = tt
cut_back (Ok u) old more long cut count e f g = g ∙ (λ i. take (e i) (f i)) ∙ take_front old more

module _ (tops : Naming) (block number : ℕ) (z acc : List ℕ) (x : Ref) (es : Definitions)
    (p : Process) (old d : Defined) (last : Piece) (own named : List ℕ) (done : ℕ)
    (own_is : own ≡ new_channels (acc ++ binder_of x) es)
    (named_is : named ≡ acc ++ place_order acc x es)
    (a : AppendsDefined old d
    (write_defs tops old.piece.next block (length old.places) number own z named es))
    (b : Appends d.piece last (with_body tops (write tops d.piece.next z p)))
    (n : done ≡ (write tops d.piece.next z p).piece.next.body) where
  abbrev in_defs : Defined
  in_defs = place_defs tops old block number z acc x es

  abbrev in_process : Wrote
  in_process = place_process tops old block number z acc x es p

  in_defs_are : AppendsDefined old d in_defs
  in_defs_are = subst (λ (q : List ℕ × List ℕ). AppendsDefined old d
      (write_defs tops old.piece.next block (length old.places) number q.0 z q.1 es))
      (λ i. (own_is i, named_is i)) a

  abbrev in_body : Piece
  in_body = with_body tops in_process

  in_body_is : Appends d.piece last in_body
  in_body_is = subst (λ (q : At). Appends d.piece last (with_body tops (write tops q z p)))
      in_defs_are.2.0 b

  -- the number of its body
  pub place_number : done ≡ in_process.piece.next.body
  place_number = n ∙ ap (λ (q : At). (write tops q z p).piece.next.body) in_defs_are.2.0

  pub place_within :
      AppendsDefined old (record { guards = d.guards; places = d.places; piece = last })
      (in_place tops old block number z acc x es p)
  place_within =
      let e = in_defs_are in
      let w = in_body_is in
      let D = in_defs.piece in (
        e.0,
        e.1,
        (
          w.0,
          w.1 ∙ ap (λ y. y ++ in_body.levels) e.2.1
              ∙ append_assoc old.piece.levels D.levels in_body.levels,
          w.2 ∙ ap (λ y. y ++ in_body.guards) e.2.2
              ∙ append_assoc old.piece.guards D.guards in_body.guards,
          w.3 ∙ ap (λ y. y ++ in_body.blocks) e.2.3
              ∙ append_assoc old.piece.blocks D.blocks in_body.blocks,
          w.4 ∙ ap (λ y. y ++ in_body.bodies) e.2.4
              ∙ append_assoc old.piece.bodies D.bodies in_body.bodies,
        ),
      )

-- ---- what writes

abbrev pub under : Writer → List ℕ → Writer
under w y = record { alloc = w.alloc; tops = w.tops; layout = y }

-- what writes is as it was, once its layout is cut back
pub writer_back : (o : Result (Unit {0}) Memory) (w u : Writer) (inner cut : List ℕ)
    → u ≡ under w inner → OnOk o (cut ≡ w.layout) → OnOk o (under u cut ≡ w)
writer_back (Err m) w u inner cut same h = tt
writer_back (Ok n) w u inner cut same h =
    λ i. record { alloc = (same i).alloc; tops = (same i).tops; layout = h i }

-- three facts as one
pub all_written : (o : Result (Unit {0}) Memory) (w v : Writer) (old new : Piece)
    (begun is : List Instr) (p : Process) → OnOk o (v ≡ w)
    → OnOk o (Appends old new (write w.tops.now old.next w.layout p).piece)
    → OnOk o (is ≡ begun ++ (write w.tops.now old.next w.layout p).instrs)
    → OnOk o (Writes w v old new begun is p)
all_written (Err m) w v old new begun is p a b c = tt
all_written (Ok n) w v old new begun is p a b c = record { writer = a; piece = b; instrs = c }
