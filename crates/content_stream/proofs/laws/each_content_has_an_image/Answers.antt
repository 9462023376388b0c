use Rattle.content_stream.proofs.WrapLemmas.{image_is_rest, image_of_each, rest_is_image}
use Rattle.content_stream.proofs.laws.each_content_has_an_image.Goals as goal

pub returns : goal.returns
returns c = record { some = image_of_each; rest = rest_is_image; only = image_is_rest }
