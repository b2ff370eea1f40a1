-- A member of a list is less deep than the list.
use Rattle.std.proofs.Common.{◌≡◌, ◌+◌, ◌++◌, Some, take, drop, refl, rules, arith, sym, ap}
use Rattle.std.proofs.Common.{◌∙◌, subst}
use Rattle.chem_model.specs.Process.{definitions, processes, Def, Par, Rule, Place}
use Rattle.chem_model.specs.Binders.{binder_of}
use Rattle.chem_model.specs.ProcessSize.{process_depth, definition_depth}
use Rattle.chem_model.specs.Nodes.{process_of, definition_of}
use Rattle.chem_model.specs.Members.{procs_depth-member, defs_depth-member}
use Rattle.env_store.specs.Layout.{new_channels, places_order}
use Rattle.guard_compile.specs.declared.write.Writer.{Writer}
use Rattle.guard_compile.specs.Written.{behind, inside}
use Rattle.guard_compile.specs.inside.Appends.{Writes, WritesBody, Defines, defs_wrote}
use Rattle.guard_compile.proofs.Blocks.{block_written, block_instrs, cut_back, take_front, under}
use Rattle.guard_compile.proofs.Blocks.{OpenedAs, writer_back, all_written, place_within}
use Rattle.guard_compile.proofs.Blocks.{place_number}
use Rattle.guard_compile.proofs.Sites.{body_written}
use Rattle.guard_compile.proofs.Loops.{drop_at, drop_past, writing_none, writing_more}
use Rattle.guard_compile.proofs.Loops.{written_whole, defining_none, defining_more, defined_whole}
use Rattle.guard_compile.proofs.write.Writer.+write.Goals as goal

pub write_all-write-requires : goal.write_all-write-requires
write_all-write-requires t c =
    let falls = rw c.as_slice-member-items.ensures.members at
    (procs_depth-member c.as_slice-member-items.result.now c.loop-member.member-index
    c.member-item.result c.loop-member-test.true c.member-item.is) in
    (omega (arith, falls), tt)

pub write_defs-write_def-requires : goal.write_defs-write_def-requires
write_defs-write_def-requires t c =
    let falls = rw c.as_slice-definition-items.ensures.members at
    (defs_depth-member c.as_slice-definition-items.result.now c.loop-definition.definition-index
    c.definition-item.result c.loop-definition-test.true c.definition-item.is) in
    (omega (arith, falls), tt)

pub write_all-loop-member-init : goal.write_all-loop-member-init
write_all-loop-member-init t c = writing_none c.args.self.now c.args.piece.now c.args.instrs.now
    c.as_slice-member-items.result.now

pub write_all-loop-member-preserved : goal.write_all-loop-member-preserved
write_all-loop-member-preserved t c =
    let items = c.as_slice-member-items.result.now in
    let i = c.loop-member.member-index in
    writing_more c.args.self.now c.args.piece.now c.args.instrs.now items
    c.loop-member.self c.loop-member.piece c.loop-member.instrs (drop i items)
    (drop (i + 1) items) c.member-item.result
    c.write.new.self c.write.new.piece c.write.new.instrs
    (drop_at items i c.member-item.result c.loop-member-test.true c.member-item.is)
    c.loop-member.invariant c.in_ok-write.ensures

pub write_all-returns : goal.write_all-returns
write_all-returns t c =
    let items = c.as_slice-member-items.result.now in
    let i = c.loop-member.member-index in
    subst (λ ps. Writes c.args.self.now c.loop-member.self c.args.piece.now c.loop-member.piece
    c.args.instrs.now c.loop-member.instrs (Par (processes ps)))
    c.as_slice-member-items.ensures.members
    (written_whole c.args.self.now c.args.piece.now c.args.instrs.now items
    c.loop-member.self c.loop-member.piece c.loop-member.instrs (drop i items)
    (drop_past items i c.loop-member-test.false) c.loop-member.invariant)

pub write_defs-loop-definition-init : goal.write_defs-loop-definition-init
write_defs-loop-definition-init t c =
    defining_none c.args.self.now c.args.within.now c.args.defined.now c.args.named.now
    c.as_slice-definition-items.result.now

pub write_defs-loop-definition-preserved : goal.write_defs-loop-definition-preserved
write_defs-loop-definition-preserved t c =
    let items = c.as_slice-definition-items.result.now in
    let i = c.loop-definition.definition-index in
    defining_more c.args.self.now c.args.within.now c.args.defined.now c.args.named.now items
    c.loop-definition.self c.loop-definition.defined c.loop-definition.named
    (drop i items) (drop (i + 1) items) c.definition-item.result
    c.write_def.new.self c.write_def.new.defined c.write_def.new.named
    (drop_at items i c.definition-item.result c.loop-definition-test.true c.definition-item.is)
    c.loop-definition.invariant c.in_ok-write_def.ensures

pub write_defs-returns : goal.write_defs-returns
write_defs-returns t c =
    let items = c.as_slice-definition-items.result.now in
    let i = c.loop-definition.definition-index in
    subst (λ ds. Defines c.args.self.now c.loop-definition.self c.args.named.now
    c.loop-definition.named (places_order c.args.named.now (definitions ds)) c.args.defined.now
    c.loop-definition.defined
    (defs_wrote c.args.self.now c.args.within.now c.args.defined.now c.args.named.now
    (definitions ds)))
    c.as_slice-definition-items.ensures.members
    (defined_whole c.args.self.now c.args.within.now c.args.defined.now c.args.named.now items
    c.loop-definition.self c.loop-definition.defined c.loop-definition.named
    (drop i items) (drop_past items i c.loop-definition-test.false)
    c.loop-definition.invariant)

pub write-write_block-requires : goal.write-write_block-requires
write-write_block-requires t c =
    let here : Def (definitions c.in-Def.defs) c.in-Def.body.value ≡ c.args.process.now =
    ap process_of (sym c.in-Def.is) ∙ c.node.ensures in
    (omega (arith, ap process_depth here, ap process_depth c.deref.ensures), tt)

pub write_begun-returns : goal.write_begun-returns
write_begun-returns t c =
    let w = c.args.self.now in
    let ds = definitions c.args.defs.now in
    let opened = c.args.begun.now.opened in
    let inner = c.extend.new.self in
    let cut = c.truncate.new.self in
    let inner_is : inner ≡ w.layout ++ opened.order =
    c.in_ok-extend.ensures ∙ ap (λ bs. w.layout ++ bs) c.as_slice.ensures in
    let defs = c.in_ok-write_defs.ensures in
    let wrote : Writes (under w inner) c.write.new.self c.write_defs.new.defined.piece
    c.write.new.piece c.push.new.self c.write.new.instrs c.args.body.now =
    subst (λ (q : Writer). Writes q c.write.new.self c.write_defs.new.defined.piece
    c.write.new.piece c.push.new.self c.write.new.instrs c.args.body.now) defs.writer
    c.in_ok-write.ensures in
    let names : OpenedAs c.args.piece.now.next w.layout ds c.args.begun.now.count
    (behind (inside c.args.piece.now.next) c.args.begun.now.count) opened.channels opened.counts
    opened.order inner cut c.len-depth.result c.len-names.result = record {
      count_is = c.requires.count;
      next_is = refl;
      channels_are = c.requires.opened.channels;
      counts_are = c.requires.opened.counts;
      names_are = c.requires.opened.order;
      inner_is = inner_is;
      named_is = c.truncate.ensures ∙ ap (λ n. take n opened.order) c.len.ensures;
      depth_is = c.len-depth.ensures;
      many_is = c.len-names.ensures;
    } in
    all_written c.put_block.result w (under c.write.new.self c.truncate-2.new.self)
    c.args.piece.now c.put_block.new.piece c.args.instrs.now c.push-2.new.self
    (Def ds c.args.body.now)
    (writer_back c.put_block.result w c.write.new.self inner c.truncate-2.new.self wrote.writer
    (cut_back c.put_block.result w.layout opened.order c.write.new.self.layout
    c.truncate-2.new.self c.len-outside.result c.len-outside.ensures
    (ap (λ (v : Writer). v.layout) wrote.writer ∙ inner_is) c.truncate-2.ensures))
    (block_written w.tops.now c.args.piece.now.next w.layout ds c.args.body.now
    c.args.begun.now.count (behind (inside c.args.piece.now.next) c.args.begun.now.count)
    opened.channels opened.counts opened.order inner cut c.len-depth.result
    c.len-names.result c.args.begun.now.defined c.write_defs.new.defined c.requires.defined names
    defs.defined c.put_block.result c.args.piece.now c.put_block.new.piece c.write.new.piece
    wrote.piece c.put_block.ensures)
    (block_instrs w.tops.now c.args.piece.now.next w.layout ds c.args.body.now
    c.args.begun.now.count (behind (inside c.args.piece.now.next) c.args.begun.now.count)
    opened.channels opened.counts opened.order inner cut c.len-depth.result
    c.len-names.result c.args.begun.now.defined c.write_defs.new.defined c.requires.defined names
    defs.defined c.put_block.result c.args.instrs.now c.push.new.self c.write.new.instrs
    c.push-2.new.self (search rules) wrote.instrs (search rules))

pub write_def-write_body-requires : goal.write_def-write_body-requires
write_def-write_body-requires t c =
    let here : Rule c.in-Rule.pats c.in-Rule.body.value ≡ c.args.definition.now =
    ap definition_of (sym c.in-Rule.is) ∙ c.node.ensures in
    (omega (arith, ap definition_depth here, ap process_depth c.deref.ensures), tt)

pub write_def-write_place-requires : goal.write_def-write_place-requires
write_def-write_place-requires t c =
    let here : Place c.in-Place.name (definitions c.in-Place.defs) c.in-Place.body.value
    ≡ c.args.definition.now = ap definition_of (sym c.in-Place.is) ∙ c.node.ensures in
    (omega (arith, ap definition_depth here, ap process_depth c.deref-in-Place.ensures), tt)

pub write_body-returns : goal.write_body-returns
write_body-returns t c =
    body_written c.put_body.result c.args.self.now c.write.new.self c.args.process.now
    c.args.piece.now c.write.new.piece c.put_body.new.piece c.new-instrs.result
    c.write.new.instrs c.new-instrs.ensures c.in_ok-write.ensures c.put_body.ensures.number
    c.put_body.ensures.next c.put_body.ensures.bodies c.put_body.ensures.levels
    c.put_body.ensures.guards c.put_body.ensures.blocks

pub write_place-returns : goal.write_place-returns
write_place-returns t c =
    let w = c.args.self.now in
    let old = c.args.begun.now in
    let es = definitions c.args.defs.now in
    let defs = c.in_ok-write_defs.ensures in
    let named = c.name_place.new.named in
    let last = c.write_body.new.piece in
    let body : WritesBody w c.write_body.new.self c.write_defs.new.defined.piece last
    c.args.body.now c.in_ok-done.done =
    subst (λ (q : Writer). WritesBody q c.write_body.new.self c.write_defs.new.defined.piece last
    c.args.body.now c.in_ok-done.done) defs.writer c.in_ok-done.ensures in
    let own : c.name_place.new.fresh
    ≡ new_channels (c.args.named.now ++ binder_of c.args.name) es =
    c.in_ok-name_place.ensures.fresh
    ∙ ap (λ bs. bs ++ new_channels (c.args.named.now ++ binder_of c.args.name) es)
    c.new-own.ensures in
    let number = place_number w.tops.now old.level.block old.number w.layout c.args.named.now
    c.args.name es c.args.body.now old.inner c.write_defs.new.defined last
    c.name_place.new.fresh named c.in_ok-done.done own c.in_ok-name_place.ensures.named
    defs.defined body.piece body.number in
    record {
      writer = body.writer;
      named = c.truncate.ensures ∙ (λ i. take (c.len-so_far.ensures i) (defs.named i))
          ∙ take_front named (places_order named es) ∙ c.in_ok-name_place.ensures.named;
      number = refl;
      level = λ i. record {
        block = old.level.block;
        place = old.level.place;
        counts = c.in_ok-name_place.ensures.counts i;
        depth = old.level.depth;
        first = old.level.first;
        guards = old.level.guards;
        body = Some (number i);
      };
      inner = place_within w.tops.now old.level.block old.number w.layout c.args.named.now
          c.args.name es c.args.body.now old.inner c.write_defs.new.defined last
          c.name_place.new.fresh named c.in_ok-done.done own c.in_ok-name_place.ensures.named
          defs.defined body.piece body.number;
    }
