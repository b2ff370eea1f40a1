use Rattle.std.proofs.Common.{◌≡◌, ◌<◌, ◌^◌, true, sym, ◌∙◌, arith}
use Rattle.lossy_link.specs.FrameFormat.{is_frame}
use Rattle.lossy_link.proofs.Heads.{no_into, no_number}
use Rattle.lossy_link.proofs.reading.head_behind.Goals as goal

pub returns-in_default-four_at : goal.returns-in_default-four_at
returns-in_default-four_at c =
    let byte : c.args.tag < 2 ^ 8 = omega arith in
    let may : is_frame c.args.tag ≡ true = sym c.is_tag.ensures ∙ c.if-not-is_tag.false in
    no_into c.args.tag byte c.args.bytes.now may c.in-Some.from c.in-Some.after_from.now
    c.in-Some.ensures.fits c.in-Some.ensures.some c.in_default-four_at.ensures.none

pub returns-in_default-eight_at : goal.returns-in_default-eight_at
returns-in_default-eight_at c =
    let byte : c.args.tag < 2 ^ 8 = omega arith in
    let may : is_frame c.args.tag ≡ true = sym c.is_tag.ensures ∙ c.if-not-is_tag.false in
    no_number c.args.tag byte c.args.bytes.now may
    c.in-Some.from c.in-Some.after_from.now c.in-Some.ensures.fits c.in-Some.ensures.some
    c.in-Some-four_at.into c.in-Some-four_at.after_into.now c.in-Some-four_at.ensures.fits
    c.in-Some-four_at.ensures.some c.in_default-eight_at.ensures.none
