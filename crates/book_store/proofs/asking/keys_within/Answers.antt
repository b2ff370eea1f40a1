-- What is within a location that is no root is this location itself.
use Rattle.chem_model.specs.Each.{IsIn}
use Rattle.std.proofs.lemmas.Result.{IfOk-weaker}
use Rattle.book_store.specs.Keys.{Key, HasAll}
use Rattle.book_store.specs.Asked.{HasAllWithin}
use Rattle.book_store.proofs.AskLaws.{within_number}
use Rattle.book_store.proofs.asking.keys_within.Goals as goal

pub returns-then-of-eq0 : goal.returns-then-of-eq0
returns-then-of-eq0 c = IfOk-weaker c.all_keys.result
    (λ list. (k : Key) → IsIn k c.args.asking.now.awaits.keys → IsIn k list.items)
    (λ list. HasAllWithin c.args.of c.args.asking.now.awaits.keys list.items)
    (λ list all k at near. all k at) c.all_keys.ensures

pub returns-else-of-eq0 : goal.returns-else-of-eq0
returns-else-of-eq0 c = IfOk-weaker c.keys_with.result
    (λ list. HasAll c.place_number.result c.args.asking.now.awaits.keys list.items)
    (λ list. HasAllWithin c.args.of c.args.asking.now.awaits.keys list.items)
    (λ list all. within_number c.args.of c.place_number.result c.args.asking.now.awaits.keys
    list.items c.place_number.ensures.is c.if-of-eq0.false all) c.keys_with.ensures.all
