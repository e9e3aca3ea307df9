use Rattle.std.proofs.Common.{◌≡◌, ◌++◌, ◌∷◌, [], None, ap, ◌∙◌, arith}
use Rattle.std.specs.List.{position}
use Rattle.std.specs.Str.{bytes_eq}
use Rattle.indexmap.specs.IndexSet.{spare}
use Rattle.farm_core.proofs.Naming.{added}
use Rattle.farm_core.proofs.names.Names.push_reserved.Goals as goal

pub returns : goal.returns
returns c =
    let name = c.args.name in
    let room : spare c.self.inside.names ≡ c.args.self.now.room = ap (λ v. v.room) c.self.view_is in
    let names : c.self.inside.names.keys ≡ c.args.self.now.names = ap (λ v. v.names) c.self.view_is in
    let unknown : position (λ other. bytes_eq name other) c.self.inside.names.keys ≡ None = ap (λ ns. position (λ other. bytes_eq name other) ns) names ∙ c.requires.unknown in
    let inserts = c.insert-added.ensures in
    added name c.self.inside.names.keys c.insert-added.new.self.keys c.insert-added.result unknown (inserts.succeeds (omega (arith, room, c.requires.room))) inserts.keys
    ∙ ap (λ ns. ns ++ name ∷ []) names
