use Rattle.std.proofs.Common.{ap, sym}
use Rattle.join_parse.specs.inside.Parsed.{place_of}
use Rattle.join_parse.proofs.cursor.place_at.Goals as goal

pub returns-in-None : goal.returns-in-None
returns-in-None c = sym (ap (place_of c.args.end) c.in-None.ensures.token)

pub returns-in-Some : goal.returns-in-Some
returns-in-Some c = sym (ap (place_of c.args.end) c.in-Some.ensures.token)
