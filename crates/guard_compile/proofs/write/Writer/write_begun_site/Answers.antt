use Rattle.std.proofs.Common.{◌≡◌, [], List, ℕ, ap, subst, length}
use Rattle.chem_model.specs.Process.{definitions}
use Rattle.env_store.specs.declared.code.SiteCode.{SiteCode}
use Rattle.guard_compile.specs.declared.write.Writer.{Writer}
use Rattle.guard_compile.specs.Written.{with_body, write, write_defs}
use Rattle.guard_compile.specs.inside.Appends.{Appends, AppendsDefined, WritesBody}
use Rattle.guard_compile.proofs.Sites.{site_written, site_number}
use Rattle.guard_compile.proofs.Blocks.{own_channels}
use Rattle.guard_compile.proofs.write.Writer.write_begun_site.Goals as goal

pub returns : goal.returns
returns c =
    let w = c.args.self.now in
    let at = c.args.piece.now.next in
    let ds = definitions c.args.defs.now in
    let p = c.args.process.now in
    let start = c.args.begun.now.defined in
    let opened = c.args.begun.now.opened in
    let d = c.write_defs.new.defined in
    let defs = c.in_ok-write_defs.ensures in
    let is = c.requires.begun in
    let named = own_channels ds opened c.len.result c.truncate.new.self is.opened c.len.ensures
    c.truncate.ensures in
    let added : AppendsDefined start d
    (write_defs w.tops.now start.piece.next at.block (length start.places) at.level
    opened.channels [] opened.channels ds) =
    subst (λ (q : List ℕ × List ℕ). AppendsDefined start d
    (write_defs w.tops.now start.piece.next at.block (length start.places) at.level
    opened.channels q.0 q.1 ds)) (λ i. (c.requires.layout i, named i)) defs.defined in
    let body : WritesBody w c.write_body.new.self d.piece c.write_body.new.piece p
    c.in_ok-body.body =
    subst (λ (q : Writer). WritesBody q c.write_body.new.self d.piece c.write_body.new.piece p
    c.in_ok-body.body) defs.writer c.in_ok-body.ensures in
    let written : Appends d.piece c.write_body.new.piece
    (with_body w.tops.now (write w.tops.now d.piece.next [] p)) =
    subst (λ y. Appends d.piece c.write_body.new.piece
    (with_body w.tops.now (write w.tops.now d.piece.next y p))) c.requires.layout body.piece in
    let number : c.in_ok-body.body ≡ (write w.tops.now d.piece.next [] p).piece.next.body =
    subst (λ y. c.in_ok-body.body ≡ (write w.tops.now d.piece.next y p).piece.next.body)
    c.requires.layout body.number in
    record {
      piece = site_written w.tops.now at ds p c.args.begun.now.count opened c.len-names.result
          start d is.count is.opened c.len-names.ensures is.defined added
          c.args.piece.now c.put_block.new.piece c.write_body.new.piece written
          c.in_ok-put_block.ensures;
      code = ap {B = SiteCode} (λ (j : ℕ). record { block = at.block; body = j })
          (site_number w.tops.now at ds p c.args.begun.now.count opened c.len-names.result
          start d is.count is.opened c.len-names.ensures is.defined added c.in_ok-body.body number);
    }
