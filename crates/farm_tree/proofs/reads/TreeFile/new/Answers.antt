use Rattle.std.proofs.Common.{◌≡◌, string_bytes, IsUtf8, sym, subst, rules}
use Rattle.std.proofs.lemmas.Str.{IsUtf8-string_bytes}
use Rattle.farm_tree.proofs.reads.TreeFile.new.Goals as goal

pub returns-clause-fits : goal.returns-clause-fits
returns-clause-fits c =
    let is : c.from_vec.result ≡ string_bytes c.args.path = search rules in
    record {
      short = rw is c.requires;
      utf8 = subst IsUtf8 (sym is) (IsUtf8-string_bytes c.args.path);
    }
