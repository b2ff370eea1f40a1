use Rattle.std.proofs.Common.{◌≡◌, ◌∙◌, [], ◌∷◌, ◌++◌, length, ap}
use Rattle.scope_names.proofs.Spelled.{places_more, spelled_more}
use Rattle.scope_names.proofs.scope.Scope.add.Goals as goal

pub invariant_of-self-2 : goal.invariant_of-self-2
invariant_of-self-2 c =
    let old = c.self.inside.entries in
    let new = c.push_reserved.new.self in
    let more : new.items ≡ old.items ++ (c.args.name, c.args.entry) ∷ [] =
    c.push_reserved.ensures.items
    ∙ ap (λ xs. xs ++ (c.args.name, c.args.entry) ∷ []) c.in_ok-reserve.ensures.items in
    let at : c.len-place.result ≡ length old.items =
    c.len-place.ensures ∙ c.in_ok-reserve.ensures.len ∙ old.ok.0 in
    places_more c.self.inside.places c.insert.new.self old.items new.items c.in_ok-key.key
    c.args.name
    c.args.entry c.len-place.result c.args.self.now c.self.view_is c.self.invariant c.requires
    c.in_ok-key.ensures.items more at c.in_ok-insert.ensures.updates

pub returns-clause-ok : goal.returns-clause-ok
returns-clause-ok c =
    let old = c.self.inside.entries in
    let new = c.push_reserved.new.self in
    let more : new.items ≡ old.items ++ (c.args.name, c.args.entry) ∷ [] =
    c.push_reserved.ensures.items
    ∙ ap (λ xs. xs ++ (c.args.name, c.args.entry) ∷ []) c.in_ok-reserve.ensures.items in
    spelled_more old.items new.items c.args.name c.args.entry c.args.self.now c.self.view_is more
