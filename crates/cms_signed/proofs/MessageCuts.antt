-- A message of a firmware package has a cut: its text begins with the head of its content.
use Rattle.std.proofs.Common.{◌≡◌, ℕ, ◌≤◌, ◌^◌, ◌%◌, Bool, true, ltb, ◌&&◌, List, [], ◌∷◌, ◌++◌, length, drop, take, refl, sym, ap}
use Rattle.std.proofs.Common.{subst, ◌∙◌, append_assoc, arith}
use Rattle.std.specs.Prelude.{Some, IsTrue, is_some, bytes_eq, pos}
use Rattle.std.proofs.lemmas.List.{append-nil, length-append, take_at, drop_at}
use Rattle.der_core.specs.Element.{enc, IsElement, HasRoom}
use Rattle.der_core.specs.Head.{head_octets}
use Rattle.der_core.specs.LeafReading.{integer_of}
use Rattle.der_core.specs.Number.{number_contents}
use Rattle.der_core.proofs.Integers.{one_text}
use Rattle.der_core.proofs.Shapes.{is_tag, length-enc-le}
use Rattle.cms_signed.specs.Cut.{HeadPart, Opens, Has, AreParts, before_content, HasCut, signed_data, firmware_package}
use Rattle.cms_signed.specs.Message.{Message, IsMessage, message_text, message_info, message_data, message_encapsulated}
use Rattle.cms_signed.specs.Message.{message_tail}
use Rattle.cms_signed.specs.Outline.{content_of}
use Rattle.cms_signed.specs.Signed.{info_contents, signed_contents, encapsulated_contents, tail_text}
use Rattle.cms_signed.proofs.Cuts.{is_integer}

-- octets begin with these parts, where so many octets are left to them, and then with the content
record Begins (parts : List HeadPart) (left : ℕ) (octets content : List ℕ) : Type 0 where
  head : List ℕ
  tail : List ℕ
  are : AreParts parts left head (length content)
  text : octets ≡ head ++ (content ++ tail)

-- the content itself
content_begins : (content : List ℕ) → Begins [] (length content) content content
content_begins content =
    record { head = []; tail = []; are = (refl, refl); text = sym (append-nil content) }

-- behind the head of an element in which the other parts stand
opens : (parts : List HeadPart) (tag left : ℕ) (octets contents more content : List ℕ) → IsElement tag contents
    → length (enc tag contents) ≤ left → octets ≡ enc tag contents ++ more
    → Begins parts (length contents) contents content → Begins (Opens tag ∷ parts) left octets content
unfolding enc
opens parts tag left octets contents more content element fits is b =
    let front = head_octets tag (length contents) in
    record {
      head = front ++ b.head;
      tail = b.tail ++ more;
      are = (
        front,
        length contents,
        b.head,
        (
          record { octet = element.octet; low_bits = element.low_bits; fits = element.fits },
          omega (arith, fits, length-append front contents),
          refl,
        ),
        b.are,
        refl,
      );
      text = is ∙ ap (λ (x : List ℕ). (front ++ x) ++ more) b.text
          ∙ append_assoc front (b.head ++ (content ++ b.tail)) more
          ∙ ap (λ (x : List ℕ). front ++ x) (append_assoc b.head (content ++ b.tail) more
          ∙ ap (λ (x : List ℕ). b.head ++ x) (append_assoc content b.tail more))
          ∙ sym (append_assoc front b.head (content ++ (b.tail ++ more)));
    }

-- behind a whole element
has : (parts : List HeadPart) (tag : ℕ) (test : List ℕ → Bool) (contents more content : List ℕ) → IsElement tag contents
    → IsTrue (test contents) → Begins parts (length more) more content
    → Begins (Has tag test ∷ parts) (length (enc tag contents ++ more)) (enc tag contents ++ more) content
has parts tag test contents more content element passes b = record {
  head = enc tag contents ++ b.head;
  tail = b.tail;
  are = (
    enc tag contents,
    length more,
    b.head,
    (contents, element, passes, sym (length-append (enc tag contents) more), refl),
    b.are,
    refl,
  );
  text = ap (λ (x : List ℕ). enc tag contents ++ x) b.text
      ∙ sym (append_assoc (enc tag contents) b.head (content ++ b.tail));
}

-- the same of an element that is all of the octets
opens_all : (parts : List HeadPart) (tag left : ℕ) (contents content : List ℕ) → IsElement tag contents
    → length (enc tag contents) ≤ left → Begins parts (length contents) contents content
    → Begins (Opens tag ∷ parts) left (enc tag contents) content
opens_all parts tag left contents content element fits b =
    opens parts tag left (enc tag contents) contents [] content element fits (sym (append-nil (enc tag contents))) b

made : (tag : ℕ) (contents : List ℕ) → IsTrue (ltb tag 256 && ltb (tag % 32) 31) → HasRoom contents
    → IsElement tag contents
made tag contents good room = let t = is_tag tag good in
    record { octet = t.octet; low_bits = t.low_bits; fits = room }

number_passes : (n : ℕ) → IsTrue (is_some (integer_of (number_contents n)))
number_passes n = let h = (one_text (pos n) (number_contents n)).1 refl in (is_integer (number_contents n) h.0).1 h.1

-- the parts of the encapsulated content
encapsulated_begins : (m : Message) → IsMessage firmware_package m
    → (let parts = Has 0x06 (bytes_eq firmware_package) ∷ Opens 0xA0 ∷ Opens 0x04 ∷ [] in
    let contents = encapsulated_contents (message_encapsulated m) in
    Begins parts (length contents) contents m.content)
encapsulated_begins m h =
    has _ 0x06 (bytes_eq firmware_package) m.content_type (enc 0xA0 (enc 0x04 m.content)) m.content
    (made 0x06 m.content_type refl (omega (arith, ap length h.content_type)))
    (subst (λ (kind : List ℕ). IsTrue (bytes_eq firmware_package kind)) (sym h.content_type) refl)
    (opens_all _ 0xA0 _ (enc 0x04 m.content) m.content (made 0xA0 (enc 0x04 m.content) refl h.encapsulated.1.1) (omega arith)
    (opens_all _ 0x04 _ m.content m.content (made 0x04 m.content refl h.encapsulated.1.0) (omega arith)
    (content_begins m.content)))

-- the parts of the signed data
signed_begins : (m : Message) → IsMessage firmware_package m
    → (let parts = Has 0x02 (λ contents. is_some (integer_of contents)) ∷ Has 0x31 (λ contents. true)
    ∷ Opens 0x30 ∷ Has 0x06 (bytes_eq firmware_package) ∷ Opens 0xA0 ∷ Opens 0x04 ∷ [] in
    let contents = signed_contents (message_data m) in
    Begins parts (length contents) contents m.content)
signed_begins m h =
    let inner = encapsulated_contents (message_encapsulated m) in
    let tail = tail_text (message_tail m) in
    has _ 0x02 (λ contents. is_some (integer_of contents)) (number_contents m.version) _ m.content
    (made 0x02 (number_contents m.version) refl h.signed.0.1) (number_passes m.version)
    (has _ 0x31 (λ contents. true) m.digest_algorithms _ m.content (made 0x31 m.digest_algorithms refl h.signed.1.0) refl
    (opens _ 0x30 _ (enc 0x30 inner ++ tail) inner tail m.content (made 0x30 inner refl h.signed.1.1.0)
    (omega (arith, length-append (enc 0x30 inner) tail)) refl (encapsulated_begins m h)))

-- the parts of the item
item_begins : (m : Message) → IsMessage firmware_package m → Begins before_content (2 ^ 33) (message_text m) m.content
item_begins m h =
    let inner = signed_contents (message_data m) in
    opens_all _ 0x30 (2 ^ 33) (info_contents (message_info m)) m.content
    (made 0x30 (info_contents (message_info m)) refl h.info.1)
    (omega (arith, length-enc-le 0x30 (info_contents (message_info m)) h.info.1, h.info.1))
    (has _ 0x06 (bytes_eq signed_data) signed_data (enc 0xA0 (enc 0x30 inner)) m.content
    (made 0x06 signed_data refl (omega arith)) refl
    (opens_all _ 0xA0 _ (enc 0x30 inner) m.content (made 0xA0 (enc 0x30 inner) refl h.info.0.1.1) (omega arith)
    (opens_all _ 0x30 _ inner m.content (made 0x30 inner refl h.signed_fits) (omega arith) (signed_begins m h))))

-- the cut, behind which the content stands
pub message_cut : (m : Message) → IsMessage firmware_package m
    → (place : ℕ) × HasCut (message_text m) place (length m.content)
    × (content_of (Some (place, length m.content)) (message_text m) ≡ m.content)
message_cut m h =
    let b = item_begins m h in (
      length b.head,
      record { head = b.head; rest = m.content ++ b.tail; before = b.are; text = b.text; placed = refl },
      ap (λ (x : List ℕ). take (length m.content) (drop (length b.head) x)) b.text
          ∙ ap (take (length m.content)) (drop_at b.head (m.content ++ b.tail) (length b.head) refl)
          ∙ take_at m.content b.tail (length m.content) refl,
    )
