-- What a site adds, put together from what its parts add.
use Rattle.std.proofs.Common.{◌≡◌, ℕ, List, [], ◌∷◌, ◌++◌, length, None, Result, Ok, Err, IfOk}
use Rattle.std.proofs.Common.{OnOk, sym, ap, ◌∙◌, subst, append_assoc}
use Rattle.chem_model.specs.declared.memory.Memory.{Memory}
use Rattle.chem_model.specs.Process.{Process, Definitions}
use Rattle.chem_model.specs.Fill.{Naming}
use Rattle.chem_laws.proofs.Lists.{append_nil}
use Rattle.env_store.specs.declared.code.Instr.{Instr}
use Rattle.env_store.specs.Layout.{rules_in, new_channels, order}
use Rattle.guard_compile.specs.declared.layout.Opened.{Opened}
use Rattle.guard_compile.specs.declared.write.At.{At}
use Rattle.guard_compile.specs.declared.write.Piece.{Piece}
use Rattle.guard_compile.specs.declared.write.Defined.{Defined}
use Rattle.guard_compile.specs.declared.write.Writer.{Writer}
use Rattle.guard_compile.specs.Written.{Wrote, behind, inside, above, no_definitions}
use Rattle.guard_compile.specs.Written.{with_body, write, write_defs, site_body, site_piece}
use Rattle.guard_compile.specs.inside.Appends.{Appends, AppendsDefined, AreBlockNames, whole_block}
use Rattle.guard_compile.specs.inside.Appends.{Writes, WritesBody}

-- a process that is a body of its own
pub body_written :
    (o : Result ℕ Memory) (w v : Writer) (p : Process) (old mid new : Piece)
    (begun is : List Instr) → begun ≡ [] → Writes w v old mid begun is p
    → IfOk o (λ n. n ≡ mid.next.body)
    → OnOk o (new.next ≡ above mid.next)
    → OnOk o (new.bodies ≡ mid.bodies ++ is ∷ [])
    → OnOk o (new.levels ≡ mid.levels)
    → OnOk o (new.guards ≡ mid.guards)
    → OnOk o (new.blocks ≡ mid.blocks)
    → IfOk o (WritesBody w v old new p)
body_written (Err m) w v p old mid new begun is k b h0 h1 h2 h3 h4 h5 = tt
body_written (Ok n) w v p old mid new begun is k b h0 h1 h2 h3 h4 h5 = record {
  writer = b.writer;
  piece = (
    h1 ∙ ap above b.piece.0,
    h3 ∙ b.piece.1 ∙ (λ i. old.levels ++ sym (append_nil W.piece.levels) i),
    h4 ∙ b.piece.2 ∙ (λ i. old.guards ++ sym (append_nil W.piece.guards) i),
    h5 ∙ b.piece.3 ∙ (λ i. old.blocks ++ sym (append_nil W.piece.blocks) i),
    h2 ∙ (λ i. b.piece.4 i ++ is_is i ∷ [])
        ∙ append_assoc old.bodies W.piece.bodies (W.instrs ∷ []),
  );
  number = h0 ∙ ap (λ (q : At). q.body) b.piece.0;
}
  where
    W : Wrote
    W = write w.tops.now old.next w.layout p

    is_is : is ≡ W.instrs
    is_is = b.instrs ∙ ap (λ js. js ++ W.instrs) k

module _ (tops : Naming) (at : At) (ds : Definitions) (p : Process) (count : ℕ) (o : Opened)
    (many : ℕ) (start d : Defined)
    (count_is : count ≡ rules_in ds) (names : AreBlockNames ds o) (many_is : many ≡ length o.order)
    (g : start ≡ no_definitions (behind (inside at) count))
    (a : AppendsDefined start d
    (write_defs tops start.piece.next at.block (length start.places) at.level o.channels []
    o.channels ds)) where
  abbrev at1 : At
  at1 = behind (inside at) (rules_in ds)

  abbrev D : Defined
  D = write_defs tops at1 at.block 0 at.level (new_channels [] ds) [] (new_channels [] ds) ds

  e : AppendsDefined (no_definitions at1) d D
  e = subst (λ (q : Defined × List ℕ).
      AppendsDefined q.0 d (write_defs tops q.0.piece.next at.block (length q.0.places) at.level
      q.1 [] q.1 ds))
      (λ i. ((g ∙ ap (λ n. no_definitions (behind (inside at) n)) count_is) i, names.channels i)) a

  -- the number of its body
  pub site_number : (number : ℕ) → number ≡ (write tops d.piece.next [] p).piece.next.body
      → number ≡ (site_body tops at ds p).piece.next.body
  site_number number h = h ∙ ap (λ (q : At). (write tops q [] p).piece.next.body) e.2.0

  pub site_written : (old new last : Piece)
      → Appends d.piece last (with_body tops (write tops d.piece.next [] p))
      → Appends old new (whole_block at 0 count many
      o.counts (record { guards = d.guards; places = d.places; piece = last }))
      → Appends old new (site_piece tops at ds p)
  site_written old new last b h =
      let W = with_body tops (write tops D.piece.next [] p) in
      let w : Appends d.piece last (with_body tops (write tops D.piece.next [] p)) =
      subst (λ (q : At). Appends d.piece last (with_body tops (write tops q [] p))) e.2.0 b in
      let names_long : many ≡ length (order ds) = many_is ∙ ap length names.order in (
        h.0 ∙ w.0,
        h.1 ∙ (λ i. old.levels ++ record {
          block = at.block;
          place = None;
          counts = names.counts i;
          depth = 0;
          first = at.guard;
          guards = count_is i;
          body = None;
        } ∷ (w.1 ∙ ap (λ x. x ++ W.levels) e.2.1) i),
        h.2 ∙ (λ i. old.guards ++ (e.0 i ++ (w.2 ∙ ap (λ x. x ++ W.guards) e.2.2) i)),
        h.3
            ∙ (λ i. old.blocks ++ record { levels = at.level ∷ e.1 i; names = names_long i }
            ∷ (w.3 ∙ ap (λ x. x ++ W.blocks) e.2.3) i),
        h.4 ∙ (λ i. old.bodies ++ (w.4 ∙ ap (λ x. x ++ W.bodies) e.2.4) i),
      )
