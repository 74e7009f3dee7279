-- Without flavors the path is the directory alone.
use Rattle.std.proofs.Common.{◌≡◌, ◌∙◌, ap, sym, subst, IfOk, string_bytes, None, ◌++◌, []}
use Rattle.std.proofs.lemmas.List.{append-nil}
use Rattle.pkg_path.specs.Paths.{canonical, without_subpackage}
use Rattle.pkg_path.specs.Seen.{flavors_seen}
use Rattle.pkg_path.proofs.path.PkgPath.port_path.Goals as goal

pub returns-in-Default : goal.returns-in-Default
unfolding canonical
returns-in-Default c =
    subst (λ text. IfOk c.from_str.result (λ made. string_bytes made ≡ text)) (c.as_str.ensures.value ∙ sym (append-nil _)
    ∙ ap (λ text. text ++ []) (sym (append-nil _))
    ∙ ap (λ flavors. canonical (record {
      directory = string_bytes c.self.inside.directory;
      flavors = flavors_seen flavors;
      subpackage =
          None;
    })) (sym c.in-Default.is)
    ∙ ap (λ path. canonical (without_subpackage path)) c.self.view_is) c.from_str.ensures.ok
