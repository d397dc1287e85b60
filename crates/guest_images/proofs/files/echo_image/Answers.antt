use Rattle.std.proofs.Common.{◌++◌, [], ◌∷◌, ap, ◌∙◌}
use Rattle.guest_images.specs.Files.{bytes_of, padded}
use Rattle.guest_images.proofs.files.echo_image.Goals as goal

pub returns : goal.returns
returns c =
    c.in_ok-push_words.ensures.added
    ∙ ap (λ bytes. bytes ++ bytes_of (1 ∷ [])) (c.in_ok-file.ensures ∙ ap (padded 0x1000) c.in_ok-front.ensures)
