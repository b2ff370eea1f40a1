use Rattle.code_run.proofs.Puts.{message_put}
use Rattle.code_run.proofs.posting.Poster.put_message.Goals as goal

pub returns : goal.returns
returns c = message_put c.args.made.now c.args.self.now.site c.args.loc c.args.on c.args.args
    c.push.new.self
    c.in_ok-next.next c.in_ok-next.ensures c.in_ok-push.ensures.ok
