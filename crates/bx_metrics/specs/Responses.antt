-- The responses of the metrics listener.
use Rattle.std.specs.Prelude.{ℕ, List, [], ◌++◌, codes, decimal, length, nat_eq, if◌then◌else◌}
use Rattle.std.specs.{List.starts_with}
use Rattle.bx_metrics.specs.declared.response.ServerHealth.{ServerHealth}
use Rattle.bx_metrics.specs.declared.response.ServerHealth.TheVariants.{Listening, NotListening, NoTick}
use Rattle.bx_metrics.specs.declared.response.MetricsRequest.{MetricsRequest}
use Rattle.bx_metrics.specs.declared.response.MetricsRequest.TheVariants.{StatusPage, Metrics, Sessions, Channels, Health, Misdirected, Other, NoGet}

-- What a request asks for, by how its head begins.
abbrev pub asked_of : List ℕ → MetricsRequest
asked_of head =
    if starts_with nat_eq head (codes "GET / ") then StatusPage
    else (if starts_with nat_eq head (codes "GET /metrics ") then Metrics
    else (if starts_with nat_eq head (codes "GET /sessions ") then Sessions
    else (if starts_with nat_eq head (codes "GET /channels ") then Channels
    else (if starts_with nat_eq head (codes "GET /healthz ") then Health
    else (if starts_with nat_eq head (codes "GET ") then Other else NoGet)))))

-- The texts `before` and `behind` with `number` in decimal between them.
abbrev pub with_number : List ℕ → ℕ → List ℕ → List ℕ
with_number before number behind = before ++ decimal number ++ behind

-- The fields that end the head of every response. `size`: the body's length in bytes.
abbrev pub fields_text : ℕ → List ℕ
fields_text size = with_number (codes "\r\ncontent-length: ") size (codes "\r\nconnection: close\r\nx-content-type-options: nosniff\r\nx-frame-options: DENY\r\n\r\n")

-- The text of a response. `status`: the code and reason phrase, and possibly another field. `body`:
-- the text after the head.
abbrev pub message_text : List ℕ → List ℕ → List ℕ
message_text status body = codes "HTTP/1.1 " ++ status ++ fields_text (length body) ++ body

-- The text of the response to a request. `health`: that of the server. `page`: the page that the
-- request asks for, if any.
abbrev pub response_text : MetricsRequest → ServerHealth → List ℕ → List ℕ
response_text StatusPage health page = message_text (codes "200 OK\r\ncontent-type: text/html; charset=utf-8") page
response_text Metrics health page = message_text (codes "200 OK\r\ncontent-type: text/plain; version=0.0.4; charset=utf-8") page
response_text Sessions health page = message_text (codes "200 OK\r\ncontent-type: text/plain; charset=utf-8") page
response_text Channels health page = message_text (codes "200 OK\r\ncontent-type: text/plain; charset=utf-8") page
response_text Health Listening page = message_text (codes "200 OK") (codes "listening\n")
response_text Health NotListening page = message_text (codes "503 Service Unavailable") (codes "not listening\n")
response_text Health NoTick page = message_text (codes "503 Service Unavailable") (codes "no tick for two seconds\n")
response_text Misdirected health page = message_text (codes "421 Misdirected Request") []
response_text Other health page = message_text (codes "404 Not Found") []
response_text NoGet health page = message_text (codes "405 Method Not Allowed\r\nallow: GET") []
